-- Searches for bytes, part by part.
use Rattle.std.proofs.Common.{◌≡◌, ℕ, ◌+◌, ◌-◌, ◌<◌, ◌≤◌, Bool, true, false, cond, eqb, not, ◌&&◌, ◌||◌, List, [], ◌∷◌, ◌++◌, length, take, drop, map, refl, sym, ap, ◌∙◌, arith, ⊎_elim, nat_lt}
use Rattle.std.specs.List.{list_any, list_all}
use Rattle.std.specs.Simd.Lanes.{mask_l}
use Rattle.std.proofs.lemmas.Bool.{cond-true, cond-false, cases_Bool, or_parts, false≢true}
use Rattle.std.proofs.lemmas.Bool.Decides.{nat_tests}
use Rattle.std.proofs.lemmas.List.Recursion.{or_push}
use Rattle.std.proofs.lemmas.List.Folds.{list_any-append}
use Rattle.std.proofs.lemmas.List.{take-append-drop, take_all, length-drop}
use Rattle.std.proofs.Math.Seq.{take-add}
use Rattle.line_protocol.specs.Escape.{is_plain}

-- a running search goes on by one
pub sought_push : (p : ℕ → Bool) (bytes : List ℕ) (b : ℕ) (any next : Bool) → any ≡ list_any p bytes → next ≡ (any || p b) → next ≡ list_any p (bytes ++ b ∷ [])
sought_push p bytes b any next kept step =
    step ∙ ap (λ t. t || p b) kept ∙ sym (or_push (list_any p) p refl (λ x xs. refl) bytes b)

-- the mask of lanes that pass a test
mask_none : (p : ℕ → Bool) (lanes : List ℕ) → list_any p lanes ≡ false → mask_l (map p lanes) ≡ 0
mask_none p [] none = refl
mask_none p (x ∷ lanes) none =
    let parts = or_parts (p x) (list_any p lanes) none in
    let rest = mask_none p lanes parts.1 in
    let first : ◌≡◌ {A = ℕ} (cond (p x) 1 0) 0 = cond-false (p x) 1 0 parts.0 in
    omega (arith, rest, first)

mask_some : (p : ℕ → Bool) (lanes : List ℕ) → list_any p lanes ≡ true → 0 < mask_l (map p lanes)
mask_some p [] some = absurd (false≢true some)
mask_some p (x ∷ lanes) some =
    ⊎_elim
    (λ yes. let first : ◌≡◌ {A = ℕ} (cond (p x) 1 0) 1 = cond-true (p x) 1 0 yes in omega (arith, first))
    (λ no. let rest = mask_some p lanes (ap (λ t. t || list_any p lanes) (sym no) ∙ some) in omega (arith, rest))
    (cases_Bool (p x))

not_none : (m : ℕ) → 0 < m → not (eqb m 0) ≡ true
not_none m some = grind (arith, nat_tests)

pub mask_tells : (p : ℕ → Bool) (lanes : List ℕ) → not (eqb (mask_l (map p lanes)) 0) ≡ list_any p lanes
mask_tells p lanes =
    ⊎_elim
    (λ some. not_none (mask_l (map p lanes)) (mask_some p lanes some) ∙ sym some)
    (λ none. ap (λ m. not (eqb m 0)) (mask_none p lanes none) ∙ sym none)
    (cases_Bool (list_any p lanes))

-- a sought byte is found in a part
or_true : (b : Bool) → (b || true) ≡ true
or_true true = refl
or_true false = refl

pub any_found : (p : ℕ → Bool) (bytes : List ℕ) (at n : ℕ) → list_any p (take n (drop at bytes)) ≡ true → list_any p bytes ≡ true
any_found p bytes at n found =
    let rest : list_any p (drop at bytes) ≡ true =
    ap (list_any p) (sym (take-append-drop n (drop at bytes))) ∙ list_any-append p (take n (drop at bytes)) (drop n (drop at bytes)) ∙ ap (λ t. t || list_any p (drop n (drop at bytes))) found in
    ap (list_any p) (sym (take-append-drop at bytes)) ∙ list_any-append p (take at bytes) (drop at bytes) ∙ ap (λ t. list_any p (take at bytes) || t) rest ∙ or_true (list_any p (take at bytes))

-- a search goes on by a part
pub any_on : (p : ℕ → Bool) (bytes : List ℕ) (at n : ℕ) → list_any p (take at bytes) ≡ false → list_any p (take n (drop at bytes)) ≡ false → list_any p (take (at + n) bytes) ≡ false
any_on p bytes at n none more =
    ap (list_any p) (take-add at n bytes) ∙ list_any-append p (take at bytes) (take n (drop at bytes)) ∙ ap (λ t. t || list_any p (take n (drop at bytes))) none ∙ more

-- the last part settles a search
pub any_last : (p : ℕ → Bool) (bytes : List ℕ) (at last n : ℕ) → list_any p (take at bytes) ≡ false → last ≤ at → last + n ≡ length bytes → list_any p (take n (drop last bytes)) ≡ list_any p bytes
any_last p bytes at last n none within long =
    let reached : last + (at - last) ≡ at = omega arith in
    let front : list_any p (take last bytes) ≡ false =
    (or_parts (list_any p (take last bytes)) (list_any p (take (at - last) (drop last bytes)))
    (sym (ap (λ k. list_any p (take k bytes)) (sym reached) ∙ ap (list_any p) (take-add last (at - last) bytes) ∙ list_any-append p (take last bytes) (take (at - last) (drop last bytes))) ∙ none)).0 in
    let whole : take n (drop last bytes) ≡ drop last bytes = take_all n (drop last bytes) (omega (arith, length-drop last bytes)) in
    ap (list_any p) whole
    ∙ sym (ap (list_any p) (sym (take-append-drop last bytes)) ∙ list_any-append p (take last bytes) (drop last bytes) ∙ ap (λ t. t || list_any p (drop last bytes)) front)

-- the tests of a byte that doesn't stand for itself
same_test : (b : ℕ) → not (is_plain b) ≡ (((nat_lt b 33 || nat_lt 126 b) || eqb b 37) || eqb b 42)
same_test b = grind (arith, nat_tests)

or_apart : (a b c d : Bool) → ((a || b) || (c || d)) ≡ ((a || c) || (b || d))
or_apart true b c d = refl
or_apart false true true d = refl
or_apart false true false d = refl
or_apart false false c d = refl

any_or : (p q : ℕ → Bool) (bytes : List ℕ) → list_any (λ b. p b || q b) bytes ≡ (list_any p bytes || list_any q bytes)
any_or p q [] = refl
any_or p q (b ∷ bytes) =
    ap (λ t. (p b || q b) || t) (any_or p q bytes) ∙ or_apart (p b) (q b) (list_any p bytes) (list_any q bytes)

pub escaped_any : (bytes : List ℕ) → list_any (λ b. not (is_plain b)) bytes ≡ (((list_any (λ b. nat_lt b 33) bytes || list_any (λ b. nat_lt 126 b) bytes) || list_any (λ b. eqb b 37) bytes) || list_any (λ b. eqb b 42) bytes)
escaped_any bytes =
    ap (λ f. list_any f bytes) (λ i b. same_test b i)
    ∙ any_or (λ b. (nat_lt b 33 || nat_lt 126 b) || eqb b 37) (λ b. eqb b 42) bytes
    ∙ ap (λ t. t || list_any (λ b. eqb b 42) bytes) (any_or (λ b. nat_lt b 33 || nat_lt 126 b) (λ b. eqb b 37) bytes ∙ ap (λ t. t || list_any (λ b. eqb b 37) bytes) (any_or (λ b. nat_lt b 33) (λ b. nat_lt 126 b) bytes))

-- the test of all bytes
pub all_plain : (bytes : List ℕ) → not (list_any (λ b. not (is_plain b)) bytes) ≡ list_all is_plain bytes
all_plain [] = refl
all_plain (b ∷ bytes) =
    elim (is_plain b) as (λ t. not (not t || list_any (λ b. not (is_plain b)) bytes) ≡ (t && list_all is_plain bytes)) [
      | true ↦ all_plain bytes
      | false ↦ refl
    ]
