-- How words are cut into marks.
use Rattle.std.proofs.Common.{◌≡◌, ℕ, ◌+◌, ◌<◌, ◌≤◌, Bool, true, false, not, List, [], ◌∷◌, length, map, get_or, take, drop, ◌-◌, take_all, Option, Some, None, Bor, refl, sym, ap, ◌∙◌, arith, lit<, ⊎_elim}
use Rattle.std.specs.List.{list_any, before_first, after_first, position_or_len}
use Rattle.std.proofs.lemmas.Bool.{cond-true, cond-false, cases_Bool, and_left, and_right, and_from, or_left, or_right, or_from, not_from_true, not_from_false}
use Rattle.std.proofs.lemmas.Option.{MatchOption-at_some, MatchOption-at_none}
use Rattle.std.proofs.lemmas.Str.Pattern.{IsSplitOnceResult, split_once_first}
use Rattle.command_line.specs.Marks.{Positional, Chosen, is_dashed, is_equals, is_bare, mark, marks}

-- a word that isn't a bare name is a mark by itself
mark_alone : (word : List ℕ) (words : List (List ℕ)) → is_bare word ≡ false → marks (word ∷ words) ≡ mark word ∷ marks words
mark_alone word [] full = refl
mark_alone word (next ∷ words) full = cond-false (is_bare word) _ _ full

pub marks_positional : (word : List ℕ) (words : List (List ℕ)) → is_dashed word ≡ false → marks (word ∷ words) ≡ Positional word ∷ marks words
marks_positional word words plain =
    mark_alone word words (and_left _ _ plain) ∙ ap (λ m. m ∷ marks words) (cond-false (is_dashed word) _ _ plain)

pub marks_equals : (word : List ℕ) (words : List (List ℕ)) → is_dashed word ≡ true → list_any is_equals word ≡ true → marks (word ∷ words) ≡ Chosen (before_first is_equals word) (after_first is_equals word) ∷ marks words
marks_equals word words dashed any =
    mark_alone word words (and_right _ _ (not_from_true _ any)) ∙ ap (λ m. m ∷ marks words) (cond-true (is_dashed word) _ _ dashed)

pub marks_bare : (word next : List ℕ) (words : List (List ℕ)) → is_dashed word ≡ true → list_any is_equals word ≡ false → marks (word ∷ next ∷ words) ≡ Chosen word next ∷ marks words
marks_bare word next words dashed none =
    cond-true (is_bare word) _ _ (and_from _ _ dashed (not_from_false _ none))

-- a list has an element that passes where the first such place is within it
pub any_from_place : (p : ℕ → Bool) (xs : List ℕ) → position_or_len p xs < length xs → list_any p xs ≡ true
any_from_place p [] within = absurd (omega arith)
any_from_place p (x ∷ xs) within =
    ⊎_elim
    (λ yes. or_left _ _ yes)
    (λ no.
    let next : position_or_len p (x ∷ xs) ≡ 1 + position_or_len p xs = cond-true (not (p x)) _ _ (not_from_false _ no) in
    let rest : position_or_len p xs < length xs = omega arith in
    or_right _ _ (any_from_place p xs rest))
    (cases_Bool (p x))

-- and none where it is the end
pub none_from_place : (p : ℕ → Bool) (xs : List ℕ) → position_or_len p xs ≡ length xs → list_any p xs ≡ false
none_from_place p [] past = refl
none_from_place p (x ∷ xs) past =
    ⊎_elim
    (λ yes.
    let here : position_or_len p (x ∷ xs) ≡ 0 = cond-false (not (p x)) _ _ (not_from_true _ yes) in
    absurd (omega arith))
    (λ no.
    let next : position_or_len p (x ∷ xs) ≡ 1 + position_or_len p xs = cond-true (not (p x)) _ _ (not_from_false _ no) in
    let rest : position_or_len p xs ≡ length xs = omega arith in
    or_from _ _ no (none_from_place p xs rest))
    (cases_Bool (p x))

-- a word that is cut at `=` is an option by itself
pub cut_at_equals : (word : List ℕ) (words : List (List ℕ)) (r : Option (Bor (List ℕ) × Bor (List ℕ))) (x : Bor (List ℕ) × Bor (List ℕ)) → IsSplitOnceResult 61 word r → r ≡ Some x → is_dashed word ≡ true → marks (word ∷ words) ≡ Chosen x.0.now x.1.now ∷ marks words
cut_at_equals word words r x cut is dashed =
    let parts = MatchOption-at_some _ _ x is (split_once_first 61 word r cut (lit< tt)) in
    marks_equals word words dashed (any_from_place is_equals word parts.0)
    ∙ ap (λ name. Chosen name (after_first is_equals word) ∷ marks words) (sym parts.1)
    ∙ ap (λ value. Chosen x.0.now value ∷ marks words) (sym parts.2)

pub not_cut : (word next : List ℕ) (words : List (List ℕ)) (r : Option (Bor (List ℕ) × Bor (List ℕ))) → IsSplitOnceResult 61 word r → r ≡ None → is_dashed word ≡ true → marks (word ∷ next ∷ words) ≡ Chosen word next ∷ marks words
not_cut word next words r cut is dashed =
    marks_bare word next words dashed (none_from_place is_equals word (MatchOption-at_none _ _ is (split_once_first 61 word r cut (lit< tt))))

-- a list with a first element is that and what stands behind it
pub first_rest : {A : Type 0} (f : A → List ℕ) (xs : List A) (x : A) (first : List ℕ) → 1 ≤ length xs → x ≡ get_or xs 0 x → first ≡ f x → map f xs ≡ first ∷ map f (take (length xs - 1) (drop 1 xs))
first_rest f [] x first some at is = absurd (omega arith)
first_rest f (y ∷ xs) x first some at is =
    ap (λ z. f z ∷ map f xs) (sym at) ∙ ap (λ z. z ∷ map f xs) (sym is) ∙ ap (λ zs. first ∷ map f zs) (sym (take_all _ xs (omega arith)))

pub marks_none : {A : Type 0} (f : A → List ℕ) (xs : List A) → length xs < 1 → marks (map f xs) ≡ []
marks_none f [] none = refl
marks_none f (x ∷ xs) none = absurd (omega arith)
