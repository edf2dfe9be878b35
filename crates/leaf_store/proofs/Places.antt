-- The tags of rows, with their places.
use Rattle.std.proofs.Common.{◌≡◌, ℕ, zero, suc, ◌+◌, ◌<◌, List, [], ◌∷◌, ◌++◌, Bool, true, false, eqb, ◌&&◌, refl, sym, ap, ◌∙◌, length, get_or, set, arith, eq-eqb, true≢false}
use borrow.Author.Tests.{eqb-true}
use Rattle.std.specs.List.{Contains}
use Rattle.leaf_store.specs.Tag.{tag_of}
use Rattle.map_model.specs.Maps.{Pairs}
use Rattle.leaf_store.specs.Rows.{bit, is_pair, times, places}

pub pair_itself : (q : ℕ × ℕ) → is_pair q q ≡ true
pair_itself q = ap (λ b. b && eqb q.1 q.1) (eq-eqb q.0 q.0 refl) ∙ eq-eqb q.1 q.1 refl

and_left : (a b : Bool) → (a && b) ≡ true → a ≡ true
and_left true b e = refl
and_left false b e = e

and_right : (a b : Bool) → (a && b) ≡ true → b ≡ true
and_right true b e = e
and_right false b e = absurd (true≢false (sym e))

pub pair_same : (q p : ℕ × ℕ) → is_pair q p ≡ true → p ≡ q
pair_same q p e =
    let first : q.0 ≡ p.0 = eqb-true q.0 p.0 (and_left (eqb q.0 p.0) (eqb q.1 p.1) e) in
    let second : q.1 ≡ p.1 = eqb-true q.1 p.1 (and_right (eqb q.0 p.0) (eqb q.1 p.1) e) in
    ap (λ a. (a, p.1)) (sym first) ∙ ap (λ b. (q.0, b)) (sym second)

pub times_contains : (q : ℕ × ℕ) (xs : List (ℕ × ℕ)) → 0 < times q xs → Contains xs q
times_contains q [] h = absurd (omega arith)
times_contains q (x ∷ xs) h = elim (is_pair q x) as (λ b. is_pair q x ≡ b → 0 < bit b + times q xs → Contains (x ∷ xs) q) [
  | true ↦ λ e h. (0, omega arith, pair_same q x e)
  | false ↦ λ e h. let r = times_contains q xs (omega arith) in (suc r.0, (let lt = r.1 in omega arith), r.2)
] refl h

pub contains_times : (q : ℕ × ℕ) (xs : List (ℕ × ℕ)) (k : ℕ) → k < length xs → get_or xs k q ≡ q → 0 < times q xs
contains_times q [] k lt e = absurd (omega arith)
contains_times q (x ∷ xs) zero lt e = let b : bit (is_pair q x) ≡ 1 = ap (λ p. bit (is_pair q p)) e ∙ ap bit (pair_itself q) in omega arith
contains_times q (x ∷ xs) (suc k) lt e = let h = contains_times q xs k (omega arith) e in omega arith

module _ {V : Type 0} (salt : ℕ) where
  pub length-places : (i : ℕ) (rows : Pairs V) → length (places salt i rows) ≡ length rows
  length-places i [] = refl
  length-places i (x ∷ rows) = omega (arith, length-places (i + 1) rows)

  pub get_or-places : (i : ℕ) (rows : Pairs V) (k : ℕ) (q : ℕ × ℕ) (d : List ℕ × V) → k < length rows → get_or (places salt i rows) k q ≡ (tag_of salt (get_or rows k d).0, i + k)
  get_or-places i [] k q d lt = absurd (omega arith)
  get_or-places i (x ∷ rows) zero q d lt = ap (λ n. (tag_of salt x.0, n)) (omega arith)
  get_or-places i (x ∷ rows) (suc k) q d lt = get_or-places (i + 1) rows k q d (omega arith) ∙ ap (λ n. (tag_of salt (get_or rows k d).0, n)) (omega arith)

  pub places_append : (i : ℕ) (rows others : Pairs V) → places salt i (rows ++ others) ≡ places salt i rows ++ places salt (i + length rows) others
  places_append i [] others = ap (λ n. places salt n others) (omega arith)
  places_append i (x ∷ rows) others = ap (λ l. (tag_of salt x.0, i) ∷ l) (places_append (i + 1) rows others ∙ ap (λ n. places salt (i + 1) rows ++ places salt n others) (omega arith))

  -- one row written over
  pub times_set : (q : ℕ × ℕ) (i : ℕ) (rows : Pairs V) (k : ℕ) (y d : List ℕ × V) → k < length rows
      → times q (places salt i (set rows k y)) + bit (is_pair q (tag_of salt (get_or rows k d).0, i + k)) ≡ times q (places salt i rows) + bit (is_pair q (tag_of salt y.0, i + k))
  times_set q i [] k y d lt = absurd (omega arith)
  times_set q i (x ∷ rows) zero y d lt = let e : i + 0 ≡ i = omega arith in rw (e) (omega arith)
  times_set q i (x ∷ rows) (suc k) y d lt = let e : i + suc k ≡ i + 1 + k = omega arith in rw (e) (let h = times_set q (i + 1) rows k y d (omega arith) in omega arith)

  pub places_same : (i : ℕ) (rows : Pairs V) (k : ℕ) (y d : List ℕ × V) → k < length rows → (get_or rows k d).0 ≡ y.0 → places salt i (set rows k y) ≡ places salt i rows
  places_same i [] k y d lt e = absurd (omega arith)
  places_same i (x ∷ rows) zero y d lt e = ap (λ key. (tag_of salt key, i) ∷ places salt (i + 1) rows) (sym e)
  places_same i (x ∷ rows) (suc k) y d lt e = ap (λ l. (tag_of salt x.0, i) ∷ l) (places_same (i + 1) rows k y d (omega arith) e)

  -- a tag of the rows is that of a row
  pub times_places : (q : ℕ × ℕ) (i : ℕ) (rows : Pairs V) → 0 < times q (places salt i rows) → (k : ℕ) × (k < length rows) × (q.1 ≡ i + k) × ((d : List ℕ × V) → q.0 ≡ tag_of salt (get_or rows k d).0)
  times_places q i [] h = absurd (omega arith)
  times_places q i (x ∷ rows) h = elim (is_pair q (tag_of salt x.0, i)) as (λ b. is_pair q (tag_of salt x.0, i) ≡ b → 0 < bit b + times q (places salt (i + 1) rows) → (k : ℕ) × (k < length (x ∷ rows)) × (q.1 ≡ i + k) × ((d : List ℕ × V) → q.0 ≡ tag_of salt (get_or (x ∷ rows) k d).0)) [
    | true ↦ λ e h. let s = pair_same q (tag_of salt x.0, i) e in (0, omega arith, (let p : i ≡ q.1 = ap (λ (p : ℕ × ℕ). p.1) s in omega arith), λ d. sym (ap (λ (p : ℕ × ℕ). p.0) s))
    | false ↦ λ e h. let r = times_places q (i + 1) rows (omega arith) in (suc r.0, (let lt = r.1 in omega arith), (let p = r.2 in omega arith), r.3)
  ] refl h
