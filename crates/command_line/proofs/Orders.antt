-- The order of marks, and the two forms of an option.
use Rattle.std.proofs.Common.{◌≡◌, ℕ, ◌+◌, Bool, true, false, cond, not, ◌&&◌, List, [], ◌∷◌, ◌++◌, length, take, drop, refl, sym, ap, ◌∙◌, arith}
use Rattle.std.specs.List.{list_any, list_all, position_or_len}
use Rattle.std.specs.Str.{bytes_eq}
use Rattle.std.proofs.Math.Seq.{take-append_seam, drop-append-add}
use Rattle.std.proofs.lemmas.Bool.{cond-true, or_parts, or_right, not_from_false}
use Rattle.std.proofs.lemmas.Slice.Eq.{bytes_eq-Decides}
use Rattle.command_line.specs.Marks.{Mark, Positional, Chosen, MayPass, is_equals, is_dashed, marks, positional, names}
use Rattle.command_line.specs.Options.{name_of, is_known, values, is_choice, first_number}
use Rattle.command_line.specs.Commands.{command_of}
use Rattle.command_line.specs.declared.field.Field.{Field}
use Rattle.command_line.proofs.Outcomes.{outcome_same}
use Rattle.command_line.proofs.Cuts.{marks_equals, marks_bare}

-- two lists of marks say the same
record Same (ms ns : List Mark) : Type 0 where
  known : list_all is_known (names ms) ≡ list_all is_known (names ns)
  values : (f : Field) → values ms f ≡ values ns f
  words : positional ms ≡ positional ns

same_command : (ms ns : List Mark) → Same ms ns → (word : List ℕ) → command_of word ms ≡ command_of word ns
same_command ms ns same word =
    outcome_same word same.known (λ f. ap is_choice (same.values f)) same.words (λ f. ap first_number (same.values f))

same_more : (m : Mark) (ms ns : List Mark) → Same ms ns → Same (m ∷ ms) (m ∷ ns)
same_more (Positional word) ms ns same = record { known = same.known; values = same.values; words = ap (λ ws. word ∷ ws) same.words }
same_more (Chosen name value) ms ns same = record {
  known = ap (λ t. is_known name && t) same.known;
  values = λ f. ap (λ vs. cond (bytes_eq name (name_of f)) (value ∷ vs) vs) (same.values f);
  words = same.words;
}

-- two conditions that don't both hold commute
apart : (a b : Bool) (v w : List ℕ) (vs : List (List ℕ)) → (a ≡ true → b ≡ true → ⊥) → cond a (v ∷ cond b (w ∷ vs) vs) (cond b (w ∷ vs) vs) ≡ cond b (w ∷ cond a (v ∷ vs) vs) (cond a (v ∷ vs) vs)
apart true true v w vs other = absurd (other refl refl)
apart true false v w vs other = refl
apart false true v w vs other = refl
apart false false v w vs other = refl

exchanged_and : (a b c : Bool) → (a && (b && c)) ≡ (b && (a && c))
exchanged_and true true c = refl
exchanged_and true false c = refl
exchanged_and false true c = refl
exchanged_and false false c = refl

same_passed : (m n : Mark) (back : List Mark) → MayPass m n → Same (m ∷ n ∷ back) (n ∷ m ∷ back)
same_passed (Positional word) (Positional other) back may = absurd may
same_passed (Positional word) (Chosen name value) back may = record { known = refl; values = λ f. refl; words = refl }
same_passed (Chosen name value) (Positional word) back may = record { known = refl; values = λ f. refl; words = refl }
same_passed (Chosen name value) (Chosen other more) back may = record {
  known = exchanged_and (is_known name) (is_known other) (list_all is_known (names back));
  values = λ f. apart (bytes_eq name (name_of f)) (bytes_eq other (name_of f)) value more (values back f) (λ here there. may ((bytes_eq-Decides name (name_of f)).0 here ∙ sym ((bytes_eq-Decides other (name_of f)).0 there)));
  words = refl;
}

same_behind : (front : List Mark) (ms ns : List Mark) → Same ms ns → Same (front ++ ms) (front ++ ns)
same_behind [] ms ns same = same
same_behind (m ∷ front) ms ns same = same_more m (front ++ ms) (front ++ ns) (same_behind front ms ns same)

pub passed : (word : List ℕ) (front back : List Mark) (m n : Mark) → MayPass m n → command_of word (front ++ m ∷ n ∷ back) ≡ command_of word (front ++ n ∷ m ∷ back)
passed word front back m n may = same_command _ _ (same_behind front (m ∷ n ∷ back) (n ∷ m ∷ back) (same_passed m n back may)) word

-- the place of the first `=` behind a name without one
place_equals : (name value : List ℕ) → list_any is_equals name ≡ false → position_or_len is_equals (name ++ 61 ∷ value) ≡ length name
place_equals [] value none = refl
place_equals (b ∷ name) value none =
    let parts = or_parts (is_equals b) (list_any is_equals name) none in
    let rest = place_equals name value parts.1 in
    let more : position_or_len is_equals (b ∷ (name ++ 61 ∷ value)) ≡ 1 + position_or_len is_equals (name ++ 61 ∷ value) = cond-true (not (is_equals b)) _ _ (not_from_false _ parts.0) in
    omega arith

any_equals : (name value : List ℕ) → list_any is_equals (name ++ 61 ∷ value) ≡ true
any_equals [] value = refl
any_equals (b ∷ name) value = or_right _ _ (any_equals name value)

still_dashed : (name value : List ℕ) → is_dashed name ≡ true → is_dashed (name ++ 61 ∷ value) ≡ true
still_dashed [] value dashed = dashed
still_dashed (b ∷ name) value dashed = dashed

pub both : (name value : List ℕ) (words : List (List ℕ)) → is_dashed name ≡ true → list_any is_equals name ≡ false → marks ((name ++ 61 ∷ value) ∷ words) ≡ marks (name ∷ value ∷ words)
both name value words dashed none =
    let place = place_equals name value none in
    marks_equals (name ++ 61 ∷ value) words (still_dashed name value dashed) (any_equals name value)
    ∙ ap (λ n. Chosen (take n (name ++ 61 ∷ value)) (drop (n + 1) (name ++ 61 ∷ value)) ∷ marks words) place
    ∙ ap (λ x. Chosen x (drop (length name + 1) (name ++ 61 ∷ value)) ∷ marks words) (take-append_seam name (61 ∷ value))
    ∙ ap (λ x. Chosen name x ∷ marks words) (drop-append-add name (61 ∷ value) 1)
    ∙ sym (marks_bare name value words dashed none)
