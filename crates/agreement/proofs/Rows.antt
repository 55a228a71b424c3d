-- A proof of all rows, put together. Assumes nothing.
infixr 20 ◌&◌
-- a row's proof and the others'
pub ◌&◌ : {A B : Type 0} → A → B → A × B
x & xs = (x, xs)
