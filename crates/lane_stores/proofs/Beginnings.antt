-- Beginnings of one history, and which calls of a lane they have.
use Rattle.std.proofs.Common.{◌≡◌, ◌⊎◌, ℕ, suc, ◌<◌, ◌≤◌, List, [], ◌∷◌, ◌++◌, length, cond, refl, sym, ap, ◌∙◌, subst, ⊎_elim, arith, append_assoc, lt-ltb, le-ltb, ne_eqb, eq-eqb, eqb-true, Bool, true, false, true≢false, ◌||◌, ◌==◌, inl, inr}
use Rattle.std.specs.List.{AllByRecursion}
use Rattle.std.proofs.lemmas.List.{append-nil}
use mathlib.Core.Logic.{dite}
use mathlib.Core.List.{IsPrefix}
use native.Mathlib.Decide.{dec_le}
use Rattle.map_model.specs.History.{Entry, own}
use Rattle.map_model.proofs.Histories.{own-append}
use Rattle.lane_stores.specs.Rule.{IsMet, is_among, Has, longer, greater}

-- of two beginnings of one history the shorter begins the longer
pub begins_shorter : (h a b : List Entry) → IsPrefix a h → IsPrefix b h → length a ≤ length b → IsPrefix a b
begins_shorter h [] b p q less = (b, refl)
begins_shorter h (x ∷ a) [] p q less = absurd (omega (arith, less))
begins_shorter [] (x ∷ a) (y ∷ b) p q less = let none : x ∷ (a ++ p.0) ≡ [] = p.1 in absurd (cc)
begins_shorter (z ∷ h) (x ∷ a) (y ∷ b) p q less =
    let left : x ∷ (a ++ p.0) ≡ z ∷ h = p.1 in
    let right : y ∷ (b ++ q.0) ≡ z ∷ h = q.1 in
    let same : x ≡ y = cc in
    let rest = begins_shorter h a b (p.0, (let e : a ++ p.0 ≡ h = cc in e)) (q.0, (let e : b ++ q.0 ≡ h = cc in e)) (omega (arith, less)) in
    (rest.0, λ i. same i ∷ rest.1 i)

nothing_more : (a b : List Entry) → a ++ b ≡ a → b ≡ []
nothing_more a [] e = refl
nothing_more [] (y ∷ b) e = absurd (cc)
nothing_more (x ∷ a) (y ∷ b) e = nothing_more a (y ∷ b) (cc)

front_empty : (a b : List Entry) → a ++ b ≡ [] → a ≡ []
front_empty [] b e = refl
front_empty (x ∷ a) b e = absurd (cc)

-- a lane without calls in a history has none in a beginning of it
pub none_before : (n : ℕ) (h a : List Entry) → IsPrefix a h → own n h ≡ [] → own n a ≡ []
none_before n h a p none = front_empty (own n a) (own n p.0) (sym (own-append n a p.0) ∙ (ap (own n) p.1 ∙ none))

-- between a beginning with all calls of a lane and the whole there are no others
pub own_between : (n : ℕ) (h a b : List Entry) → IsPrefix a b → IsPrefix b h → own n h ≡ own n a → own n h ≡ own n b
own_between n h a b p q same =
    let whole : own n h ≡ own n b ++ own n q.0 = ap (own n) (sym q.1) ∙ own-append n b q.0 in
    let part : own n b ≡ own n a ++ own n p.0 = ap (own n) (sym p.1) ∙ own-append n a p.0 in
    let all : own n a ++ (own n p.0 ++ own n q.0) ≡ own n a = sym (append_assoc (own n a) (own n p.0) (own n q.0)) ∙ (ap (λ l. l ++ own n q.0) (sym part) ∙ (sym whole ∙ same)) in
    let none : own n p.0 ≡ [] = front_empty (own n p.0) (own n q.0) (nothing_more (own n a) (own n p.0 ++ own n q.0) all) in
    same ∙ sym (part ∙ (ap (λ l. own n a ++ l) none ∙ append-nil (own n a)))

-- no call is of a lane whose number is above all others
pub own_none : (n : ℕ) (h : List Entry) → AllByRecursion (λ (e : Entry). e.lane < n) h → own n h ≡ []
own_none n [] all = refl
own_none n (e ∷ h) all = ap (λ b. cond b (e ∷ own n h) (own n h)) (ne_eqb e.lane n (λ is. omega (arith, is, all.0))) ∙ own_none n h all.1

pub own_others : (n lane : ℕ) (h : List Entry) → (n ≡ lane → ⊥) → AllByRecursion (λ (e : Entry). e.lane ≡ lane) h → own n h ≡ []
own_others n lane [] other all = refl
own_others n lane (e ∷ h) other all = ap (λ b. cond b (e ∷ own n h) (own n h)) (ne_eqb e.lane n (λ is. other (sym is ∙ all.0))) ∙ own_others n lane h other all.1

pub all_more : (P Q : Entry → Type 0) → ((e : Entry) → P e → Q e) → (h : List Entry) → AllByRecursion P h → AllByRecursion Q h
all_more P Q more [] all = tt
all_more P Q more (e ∷ h) all = (more e all.0, all_more P Q more h all.1)

pub all_append : (P : Entry → Type 0) (h more : List Entry) → AllByRecursion P h → AllByRecursion P more → AllByRecursion P (h ++ more)
all_append P [] more all rest = rest
all_append P (e ∷ h) more all rest = (all.0, all_append P h more all.1 rest)

pub all_front : (P : Entry → Type 0) (h more : List Entry) → AllByRecursion P (h ++ more) → AllByRecursion P h
all_front P [] more all = tt
all_front P (e ∷ h) more all = (all.0, all_front P h more all.1)

-- numbers among two lists are in one of them
pub among_cases : (xs ys : List ℕ) (n : ℕ) → Has (xs ++ ys) n → Has xs n ⊎ Has ys n
among_cases [] ys n has = inr has
among_cases (x ∷ xs) ys n has =
    (elim (x == n) as (λ b. (b || is_among (xs ++ ys) n) ≡ true → ((b || is_among xs n) ≡ true) ⊎ Has ys n) [
      | true ↦ λ here. inl refl
      | false ↦ λ later. among_cases xs ys n later
    ]) has

pub among_front : (xs ys : List ℕ) (n : ℕ) → Has xs n → Has (xs ++ ys) n
among_front [] ys n has = absurd (true≢false (sym has))
among_front (x ∷ xs) ys n has =
    (elim (x == n) as (λ b. (b || is_among xs n) ≡ true → (b || is_among (xs ++ ys) n) ≡ true) [
      | true ↦ λ here. refl
      | false ↦ λ later. among_front xs ys n later
    ]) has

pub among_back : (xs ys : List ℕ) (n : ℕ) → Has ys n → Has (xs ++ ys) n
among_back [] ys n has = has
among_back (x ∷ xs) ys n has =
    elim (x == n) as (λ b. (b || is_among (xs ++ ys) n) ≡ true) [
      | true ↦ refl
      | false ↦ among_back xs ys n has
    ]

pub only_one : (x n : ℕ) → Has (x ∷ []) n → x ≡ n
only_one x n has = eqb-true x n (first (x == n) has)
  where
    first : (b : Bool) → (b || false) ≡ true → b ≡ true
    first true h = refl
    first false h = h

pub has_one : (n : ℕ) → Has (n ∷ []) n
has_one n = ap (λ b. b || false) (eq-eqb n n refl)

-- what holds of either of two where it isn't the lesser one holds of the greater
pub longer_is : (P : List Entry → Type 0) (a b : List Entry) → (length b ≤ length a → P a) → (length a ≤ length b → P b) → P (longer a b)
longer_is P a b first second = dite (dec_le (suc (length a)) (length b))
    (λ less. subst (λ t. P (cond t b a)) (sym (lt-ltb (length a) (length b) less)) (second (omega (arith, less))))
    (λ not_less. subst (λ t. P (cond t b a)) (sym (le-ltb (length a) (length b) (omega (arith, not_less)))) (first (omega (arith, not_less))))

pub greater_is : (P : ℕ → Type 0) (a b : ℕ) → (b ≤ a → P a) → (a ≤ b → P b) → P (greater a b)
greater_is P a b first second = dite (dec_le (suc a) b)
    (λ less. subst (λ t. P (cond t b a)) (sym (lt-ltb a b less)) (second (omega (arith, less))))
    (λ not_less. subst (λ t. P (cond t b a)) (sym (le-ltb a b (omega (arith, not_less)))) (first (omega (arith, not_less))))

-- two beginnings met in the longer of them, and both lanes' calls are in it
pub record Met (h : List Entry) (x y : List ℕ × List Entry) (both : List Entry) : Type 0 where
  pub first : IsMet both x
  pub second : IsMet both y
  pub whole : IsMet h (x.0 ++ y.0, both)

met_over : (h : List Entry) (x y : List ℕ × List Entry) → IsMet h x → IsMet h y → length x.1 ≤ length y.1 → IsMet y.1 x × IsMet y.1 y
met_over h x y p q less =
    let begins = begins_shorter h x.1 y.1 p.begins q.begins less in (
      record { begins = begins; all = λ n has. sym (own_between n h x.1 y.1 begins q.begins (p.all n has)) ∙ p.all n has },
      record { begins = ([], append-nil y.1); all = λ n has. refl },
    )

pub met_both : (h : List Entry) (x y : List ℕ × List Entry) → IsMet h x → IsMet h y → Met h x y (longer x.1 y.1)
met_both h x y p q = longer_is (λ both. Met h x y both) x.1 y.1
    (λ less. let over = met_over h y x q p less in record {
      first = over.1;
      second = over.0;
      whole = record { begins = p.begins; all = λ n has. ⊎_elim (λ at. p.all n at) (λ at. q.all n at ∙ sym (over.0.all n at)) (among_cases x.0 y.0 n has) };
    })
    (λ less. let over = met_over h x y p q less in record {
      first = over.0;
      second = over.1;
      whole = record { begins = q.begins; all = λ n has. ⊎_elim (λ at. p.all n at ∙ sym (over.0.all n at)) (λ at. q.all n at) (among_cases x.0 y.0 n has) };
    })
