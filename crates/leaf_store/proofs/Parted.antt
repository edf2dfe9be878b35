-- The tags of rows that are cut in two.
use Rattle.std.proofs.Common.{◌≡◌, ℕ, ◌+◌, ◌-◌, ◌<◌, ◌≤◌, List, [], ◌∷◌, Bool, true, false, cond, not, eqb, eq-eqb, ◌&&◌, map, refl, sym, ap, ◌∙◌, zero, suc, take, drop, nat_lt, arith}
use mathlib.Core.Bool.{false≢true}
use Rattle.std.specs.Prelude.{filter}
use native.Mathlib.Decide.{ℕ_discrete}
use mathlib.Core.Logic.{dite}
use Rattle.std.proofs.lemmas.Bool.{ltb-true, ltb-false, ne_eqb}
use Rattle.map_model.specs.Maps.{Pairs}
use Rattle.leaf_tags.specs.Tags.{places_below, places_from}
use Rattle.leaf_store.specs.Tag.{tag_of}
use Rattle.leaf_store.specs.Rows.{bit, is_pair, times, places, AreTags}
use Rattle.leaf_store.proofs.Places.{pair_same}

and_none : (a : Bool) → bit (a && false) ≡ 0
and_none true = refl
and_none false = refl

eqb_moved : (a b n : ℕ) → n ≤ b → eqb a (b - n) ≡ eqb (a + n) b
eqb_moved a b n le = dite (ℕ_discrete a (b - n))
    (λ same. eq-eqb a (b - n) same ∙ sym (eq-eqb (a + n) b (omega arith)))
    (λ other. ne_eqb a (b - n) other ∙ sym (ne_eqb (a + n) b (λ h. other (omega arith))))

-- how often a pair stands in a filter
times_filter : (p : ℕ × ℕ → Bool) (q : ℕ × ℕ) (xs : List (ℕ × ℕ)) → times q (filter p xs) ≡ cond (p q) (times q xs) 0
times_filter p q [] = let none : ℕ = 0 in elim (p q) as (λ b. none ≡ cond b none none) [ true ↦ refl | false ↦ refl ]
times_filter p q (x ∷ xs) = sides (p x) (p q) (is_pair q x) refl refl refl (times_filter p q xs)
  where
    sides : (a b c : Bool) → p x ≡ a → p q ≡ b → is_pair q x ≡ c → times q (filter p xs) ≡ cond (p q) (times q xs) 0
        → times q (cond a (x ∷ filter p xs) (filter p xs)) ≡ cond b (bit (is_pair q x) + times q xs) 0
    sides true true c e f s rest = let r : times q (filter p xs) ≡ times q xs = rest ∙ ap (λ b. cond b (times q xs) 0) f in omega arith
    sides false false c e f s rest = rest ∙ ap (λ b. cond b (times q xs) 0) f
    sides true false true e f s rest = absurd (false≢true (sym f ∙ (sym (ap p (pair_same q x s)) ∙ e)))
    sides true false false e f s rest = let r : times q (filter p xs) ≡ 0 = rest ∙ ap (λ b. cond b (times q xs) 0) f in let z : bit (is_pair q x) ≡ 0 = ap bit s in omega arith
    sides false true true e f s rest = absurd (false≢true (sym e ∙ (ap p (pair_same q x s) ∙ f)))
    sides false true false e f s rest = let r : times q (filter p xs) ≡ times q xs = rest ∙ ap (λ b. cond b (times q xs) 0) f in let z : bit (is_pair q x) ≡ 0 = ap bit s in omega arith

abbrev lessened : ℕ → List (ℕ × ℕ) → List (ℕ × ℕ)
lessened n pairs = map (λ (p : ℕ × ℕ). (p.0, p.1 - n)) pairs

abbrev others : ℕ → List (ℕ × ℕ) → List (ℕ × ℕ)
others n pairs = filter (λ (p : ℕ × ℕ). not (nat_lt p.1 n)) pairs

-- a pair that is moved down is there as often as the pair from which it came
times_from : (n : ℕ) (q : ℕ × ℕ) (xs : List (ℕ × ℕ)) → times q (places_from n xs) ≡ times (q.0, q.1 + n) xs
times_from n q [] = refl
times_from n q (x ∷ xs) = sides (nat_lt x.1 n) refl (times_from n q xs)
  where
    sides : (b : Bool) → nat_lt x.1 n ≡ b → times q (lessened n (others n xs)) ≡ times (q.0, q.1 + n) xs
        → times q (lessened n (cond (not b) (x ∷ others n xs) (others n xs))) ≡ bit (is_pair (q.0, q.1 + n) x) + times (q.0, q.1 + n) xs
    sides true e rest =
        let lt : x.1 < n = ltb-true x.1 n e in
        let other : eqb (q.1 + n) x.1 ≡ false = ne_eqb (q.1 + n) x.1 (λ h. absurd (omega arith)) in
        let none : bit (is_pair (q.0, q.1 + n) x) ≡ 0 = ap (λ t. bit (eqb q.0 x.0 && t)) other ∙ and_none (eqb q.0 x.0) in
        omega arith
    sides false e rest =
        let le : n ≤ x.1 = ltb-false x.1 n e in
        let same : eqb q.1 (x.1 - n) ≡ eqb (q.1 + n) x.1 = eqb_moved q.1 x.1 n le in
        let one : bit (is_pair q (x.0, x.1 - n)) ≡ bit (is_pair (q.0, q.1 + n) x) = ap (λ t. bit (eqb q.0 x.0 && t)) same in
        omega arith

module _ {V : Type 0} where
  -- the tags of the first rows
  below_places : (salt i n : ℕ) (rows : Pairs V) → places_below n (places salt i rows) ≡ places salt i (take (n - i) rows)
  below_places salt i n [] = sides (n - i)
    where
      sides : (k : ℕ) → [] ≡ places {V = V} salt i (take k [])
      sides zero = refl
      sides (suc k) = refl
  below_places salt i n (x ∷ rows) = sides (nat_lt i n) refl (below_places salt (i + 1) n rows)
    where
      sides : (b : Bool) → nat_lt i n ≡ b → places_below n (places salt (i + 1) rows) ≡ places salt (i + 1) (take (n - (i + 1)) rows)
          → cond b ((tag_of salt x.0, i) ∷ places_below n (places salt (i + 1) rows)) (places_below n (places salt (i + 1) rows)) ≡ places salt i (take (n - i) (x ∷ rows))
      sides true e rest =
          let lt : i < n = ltb-true i n e in
          let one : n - i ≡ suc (n - (i + 1)) = omega arith in
          ap (λ t. (tag_of salt x.0, i) ∷ t) rest ∙ sym (ap (λ k. places salt i (take k (x ∷ rows))) one)
      sides false e rest =
          let le : n ≤ i = ltb-false i n e in
          let none : n - i ≡ 0 = omega arith in
          let less : n - (i + 1) ≡ 0 = omega arith in
          rest ∙ (ap (λ k. places salt (i + 1) (take k rows)) less ∙ sym (ap (λ k. places salt i (take k (x ∷ rows))) none))

  pub left_tags : (salt : ℕ) (rows : Pairs V) (pairs : List (ℕ × ℕ)) → AreTags salt rows pairs → (n : ℕ) → AreTags salt (take n rows) (places_below n pairs)
  left_tags salt rows pairs tags n q =
      let below : ℕ × ℕ → Bool = λ p. nat_lt p.1 n in
      let all : n - 0 ≡ n = omega arith in
      times_filter below q pairs ∙ (ap (λ t. cond (below q) t 0) (tags q) ∙ (sym (times_filter below q (places salt 0 rows))
      ∙ (ap (times q) (below_places salt 0 n rows) ∙ ap (λ k. times q (places salt 0 (take k rows))) all)))

  -- and those of the others, as places of the others alone
  from_places : (salt i n : ℕ) (rows : Pairs V) → places_from n (places salt i rows) ≡ places salt (i - n) (drop (n - i) rows)
  from_places salt i n [] = sides (n - i)
    where
      sides : (k : ℕ) → [] ≡ places {V = V} salt (i - n) (drop k [])
      sides zero = refl
      sides (suc k) = refl
  from_places salt i n (x ∷ rows) = sides (nat_lt i n) refl (from_places salt (i + 1) n rows)
    where
      sides : (b : Bool) → nat_lt i n ≡ b → lessened n (others n (places salt (i + 1) rows)) ≡ places salt (i + 1 - n) (drop (n - (i + 1)) rows)
          → lessened n (cond (not b) ((tag_of salt x.0, i) ∷ others n (places salt (i + 1) rows)) (others n (places salt (i + 1) rows))) ≡ places salt (i - n) (drop (n - i) (x ∷ rows))
      sides true e rest =
          let lt : i < n = ltb-true i n e in
          let one : n - i ≡ suc (n - (i + 1)) = omega arith in
          let start : i + 1 - n ≡ i - n = omega arith in
          rest ∙ (ap (λ k. places salt k (drop (n - (i + 1)) rows)) start ∙ sym (ap (λ k. places salt (i - n) (drop k (x ∷ rows))) one))
      sides false e rest =
          let le : n ≤ i = ltb-false i n e in
          let none : n - i ≡ 0 = omega arith in
          let less : n - (i + 1) ≡ 0 = omega arith in
          let start : i + 1 - n ≡ i - n + 1 = omega arith in
          ap (λ t. (tag_of salt x.0, i - n) ∷ t) (rest ∙ (ap (λ k. places salt k (drop (n - (i + 1)) rows)) start ∙ ap (λ k. places salt (i - n + 1) (drop k rows)) less))
          ∙ sym (ap (λ k. places salt (i - n) (drop k (x ∷ rows))) none)

  pub right_tags : (salt : ℕ) (rows : Pairs V) (pairs : List (ℕ × ℕ)) → AreTags salt rows pairs → (n : ℕ) → AreTags salt (drop n rows) (places_from n pairs)
  right_tags salt rows pairs tags n q =
      let back : ℕ × ℕ = (q.0, q.1 + n) in
      let all : n - 0 ≡ n = omega arith in
      let first : 0 - n ≡ 0 = omega arith in
      times_from n q pairs ∙ (tags back ∙ (sym (times_from n q (places salt 0 rows))
      ∙ (ap (times q) (from_places salt 0 n rows) ∙ (ap (λ k. times q (places salt k (drop (n - 0) rows))) first ∙ ap (λ k. times q (places salt 0 (drop k rows))) all))))
