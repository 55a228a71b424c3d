-- That numbers are a cycle, by computing.
use Rattle.std.proofs.Common.{◌≡◌, ℕ, zero, suc, ◌+◌, ◌-◌, ◌<◌, Bool, true, false, not, ◌&&◌, List, [], ◌∷◌, length, eqb, leb, get_or, arith, ap, ◌∙◌, refl}
use Rattle.std.specs.List.{list_all}
use Rattle.std.proofs.lemmas.Bool.{and_parts, leb-true, eq-eqb, not-true, both_ways}
use Rattle.graphs.specs.Edges.{IsCycle}
use Rattle.history.specs.declared.Entry.{Entry}
use Rattle.history.specs.Entries.{committed}
use Rattle.history.specs.Order.{arrow, ConflictCycle}
use Rattle.history.proofs.Keeping.{arrow_must}

all_at : (test : ℕ → Bool) (c : List ℕ) (i : ℕ) → i < length c → list_all test c ≡ true → test (get_or c i 0) ≡ true
all_at test [] i l h = absurd (omega arith)
all_at test (n ∷ ns) zero l h = (and_parts (test n) (list_all test ns) h).0
all_at test (n ∷ ns) (suc i) l h = all_at test ns i (omega arith) (and_parts (test n) (list_all test ns) h).1

abbrev pub other : ℕ → ℕ → Bool
other m n = not (eqb m n)

abbrev pub apart : List ℕ → Bool
apart [] = true
apart (n ∷ ns) = list_all (other n) ns && apart ns

other_differs : (m n : ℕ) → other m n ≡ true → m ≡ n → ⊥
other_differs m n h e = both_ways (eqb m n) (not-true (eqb m n) h) (eq-eqb m n e)

apart_at : (c : List ℕ) (i j : ℕ) → i < j → j < length c → apart c ≡ true → get_or c i 0 ≡ get_or c j 0 → ⊥
apart_at [] i j l m h e = omega arith
apart_at (n ∷ ns) i zero l m h e = omega arith
apart_at (n ∷ ns) zero (suc j) l m h e =
    other_differs n (get_or ns j 0) (all_at (other n) ns j (omega arith) (and_parts (list_all (other n) ns) (apart ns) h).0) e
apart_at (n ∷ ns) (suc i) (suc j) l m h e = apart_at ns i j (omega arith) (omega arith) (and_parts (list_all (other n) ns) (apart ns) h).1 e

module _ (member : ℕ → Bool) (edge : ℕ → ℕ → Bool) where
  -- each has an edge to the next, and the last to the one that is named
  abbrev pub leads : ℕ → List ℕ → Bool
  leads to [] = false
  leads to (n ∷ []) = edge n to
  leads to (n ∷ m ∷ ns) = edge n m && leads to (m ∷ ns)

  -- members, each another, each with an edge to the next and the last to the first
  abbrev pub is_ring : List ℕ → Bool
  is_ring [] = false
  is_ring (n ∷ ns) = list_all member (n ∷ ns) && (apart (n ∷ ns) && leads n (n ∷ ns))

  pub record Ring (c : List ℕ) : Type 0 where
    pub some : 0 < length c
    pub members : (i : ℕ) → i < length c → member (get_or c i 0) ≡ true
    pub distinct : (i j : ℕ) → i < j → j < length c → get_or c i 0 ≡ get_or c j 0 → ⊥
    pub steps : (i : ℕ) → i + 1 < length c → edge (get_or c i 0) (get_or c (i + 1) 0) ≡ true
    pub closes : edge (get_or c (length c - 1) 0) (get_or c 0 0) ≡ true

  leads_on : (to : ℕ) (c : List ℕ) (i : ℕ) → suc i < length c → leads to c ≡ true → edge (get_or c i 0) (get_or c (suc i) 0) ≡ true
  leads_on to [] i l h = absurd (omega arith)
  leads_on to (n ∷ []) i l h = absurd (omega arith)
  leads_on to (n ∷ m ∷ ns) zero l h = (and_parts (edge n m) (leads to (m ∷ ns)) h).0
  leads_on to (n ∷ m ∷ ns) (suc i) l h = leads_on to (m ∷ ns) i (omega arith) (and_parts (edge n m) (leads to (m ∷ ns)) h).1

  leads_back : (to n : ℕ) (ns : List ℕ) → leads to (n ∷ ns) ≡ true → edge (get_or (n ∷ ns) (length ns) 0) to ≡ true
  leads_back to n [] h = h
  leads_back to n (m ∷ ns) h = leads_back to m ns (and_parts (edge n m) (leads to (m ∷ ns)) h).1

  ring_of : (c : List ℕ) → is_ring c ≡ true → Ring c
  ring_of [] h = absurd (both_ways false refl h)
  ring_of (n ∷ ns) h =
      let q = and_parts (list_all member (n ∷ ns)) (apart (n ∷ ns) && leads n (n ∷ ns)) h in
      let r = and_parts (apart (n ∷ ns)) (leads n (n ∷ ns)) q.1 in
      let last : length (n ∷ ns) - 1 ≡ length ns = omega arith in
      let next : (i : ℕ) → i + 1 ≡ suc i = λ i. omega arith in
      record {
        some = omega arith;
        members = λ i l. all_at member (n ∷ ns) i l q.0;
        distinct = λ i j l m e. apart_at (n ∷ ns) i j l m r.0 e;
        steps = λ i l.
            ap (λ (k : ℕ). edge (get_or (n ∷ ns) i 0) (get_or (n ∷ ns) k 0)) (next i) ∙ leads_on n (n ∷ ns) i (omega (arith, l)) r.1;
        closes = ap (λ (i : ℕ). edge (get_or (n ∷ ns) i 0) n) last ∙ leads_back n n ns r.1;
      }

-- a number of the graph
abbrev pub inside : (ℕ → Bool) → ℕ → Bool
inside has n = leb 1 n && (leb n 64 && has n)

module _ {has : ℕ → Bool} {edge : ℕ → ℕ → Bool} {c : List ℕ} where
  pub is_cycle : is_ring (inside has) edge c ≡ true → IsCycle has edge c
  is_cycle h =
      let r = ring_of (inside has) edge c h in
      record {
        some = r.some;
        members = λ i l.
            let n = get_or c i 0 in
            let p = and_parts (leb 1 n) (leb n 64 && has n) (r.members i l) in
            let q = and_parts (leb n 64) (has n) p.1 in
            (leb-true 1 n p.0, leb-true n 64 q.0, q.1);
        distinct = r.distinct;
        steps = r.steps;
        closes = r.closes;
      }

module _ {K : Type 0} {alike : K → K → Bool} {es : List (Entry K)} {c : List ℕ} where
  -- two or more committed cues
  pub cycle : (leb 2 (length c) && is_ring (committed es) (arrow alike es) c) ≡ true → ConflictCycle alike es c
  cycle h =
      let p = and_parts (leb 2 (length c)) (is_ring (committed es) (arrow alike es) c) h in
      let r = ring_of (committed es) (arrow alike es) c p.1 in
      record {
        two = leb-true 2 (length c) p.0;
        members = r.members;
        distinct = r.distinct;
        steps = λ i l. arrow_must alike es (get_or c i 0) (get_or c (i + 1) 0) (r.steps i l);
        closes = arrow_must alike es (get_or c (length c - 1) 0) (get_or c 0 0) r.closes;
      }
