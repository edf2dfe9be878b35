-- What marks make of the choices so far.
use Rattle.std.proofs.Common.{◌≡◌, ◌≢◌, ℕ, ◌<◌, ◌≤◌, Bool, true, false, cond, ◌&&◌, List, [], ◌∷◌, ◌++◌, length, get_or, Option, Some, None, ◌⊎◌, inl, inr, zero, suc, refl, sym, ap, ◌∙◌, arith, ⊎_elim, append_assoc}
use Rattle.std.specs.List.{list_all}
use Rattle.std.specs.Option.{is_some}
use Rattle.std.specs.Str.{bytes_eq}
use Rattle.std.specs.Str.Parse.{digits_value}
use Rattle.std.proofs.Math.Path.{fun_ext}
use Rattle.std.proofs.lemmas.Bool.{cond-true, cond-false, cond_both, cases_Bool, and_parts, and_left, and_right, false_from_ne_true, both_ways}
use Rattle.std.proofs.lemmas.Option.{cond_some}
use Rattle.std.proofs.lemmas.Slice.Eq.{bytes_eq-Decides}
use Rattle.command_line.specs.Number.{is_number, number}
use Rattle.command_line.specs.Marks.{Mark, Positional, Chosen, positional, names}
use Rattle.command_line.specs.Options.{name_of, fields, is_known, values, is_choice, first_number}
use Rattle.command_line.specs.Commands.{Wanted, command_by, command_for, command_of, command_with, fill}
use Rattle.command_line.specs.Verbs.{verb_of}
use Rattle.command_line.specs.Places.{place_of}
use Rattle.command_line.specs.Reading.{list_of, number_at, Chose, Takes, IsRefused}
use Rattle.command_line.specs.declared.choices.Choices.{Choices}
use Rattle.command_line.specs.declared.verb.Verb.{Verb}
use Rattle.command_line.specs.declared.verb.Verb.TheVariants as verbs
use Rattle.command_line.specs.declared.field.Field.{Field}
use Rattle.command_line.specs.declared.field.Field.TheVariants.{Leaves, Items, Heads, Values, Lanes, Soft, Hard, MergeSum, Salt, Tries, Workers, Sessions}
use Rattle.row_words.specs.declared.shape.Shape.{Shape}

-- the number of each field, where it has one
abbrev pub Numbers : Type 0
Numbers = Field → Option ℕ

-- whether a field that may have a number is given at most one, by these values
abbrev pub choice_from : Option ℕ → List (List ℕ) → Bool
choice_from None vs = is_choice vs
choice_from (Some n) [] = true
choice_from (Some n) (v ∷ vs) = false

-- the number that it has then
abbrev pub number_from : Option ℕ → List (List ℕ) → Option ℕ
number_from None vs = first_number vs
number_from (Some n) vs = Some n

abbrev pub outcome_by : Bool → (Field → Bool) → List ℕ → List (List ℕ) → Numbers → Option Wanted
outcome_by known tests word words numbers = cond (known && list_all tests fields) (command_for word words numbers) None

-- the command of a first word, of what was chosen so far, and of further marks
abbrev pub outcome : Numbers → List (List ℕ) → List Mark → List ℕ → Option Wanted
outcome numbers words ms word =
    outcome_by (list_all is_known (names ms)) (λ f. choice_from (numbers f) (values ms f)) word (words ++ positional ms) (λ f. number_from (numbers f) (values ms f))

pub outcome_same : {known known' : Bool} {tests tests' : Field → Bool} {words words' : List (List ℕ)} {numbers numbers' : Numbers} (word : List ℕ) → known ≡ known' → ((f : Field) → tests f ≡ tests' f) → words ≡ words' → ((f : Field) → numbers f ≡ numbers' f) → outcome_by known tests word words numbers ≡ outcome_by known' tests' word words' numbers'
outcome_same {known} {known'} {tests} {tests'} {words} {words'} {numbers} {numbers'} word k t w n =
    ap (λ x. outcome_by x tests word words numbers) k
    ∙ ap (λ x. outcome_by known' x word words numbers) (fun_ext t)
    ∙ ap (λ x. outcome_by known' tests' word x numbers) w
    ∙ ap (λ x. outcome_by known' tests' word words' x) (fun_ext n)

-- nothing is chosen yet
pub outcome_start : (numbers : Numbers) (words : List (List ℕ)) → ((f : Field) → numbers f ≡ None) → words ≡ [] → (ms : List Mark) (word : List ℕ) → outcome numbers words ms word ≡ command_of word ms
outcome_start numbers words none empty ms word =
    outcome_same word refl (λ f. ap (λ o. choice_from o (values ms f)) (none f)) (ap (λ ws. ws ++ positional ms) empty) (λ f. ap (λ o. number_from o (values ms f)) (none f))

-- where twelve fields have no number, none has one
abbrev no_numbers : List (Option ℕ)
no_numbers = None ∷ None ∷ None ∷ None ∷ None ∷ None ∷ None ∷ None ∷ None ∷ None ∷ None ∷ None ∷ []

pub none_at : (f : Field) → get_or no_numbers (place_of f) None ≡ None
none_at Leaves = refl
none_at Items = refl
none_at Heads = refl
none_at Values = refl
none_at Lanes = refl
none_at Soft = refl
none_at Hard = refl
none_at MergeSum = refl
none_at Salt = refl
none_at Tries = refl
none_at Workers = refl
none_at Sessions = refl

choice_end : (o : Option ℕ) → choice_from o [] ≡ true
choice_end None = refl
choice_end (Some n) = refl

number_end : (o : Option ℕ) → number_from o [] ≡ o
number_end None = refl
number_end (Some n) = refl

append_none : (words : List (List ℕ)) → words ++ [] ≡ words
append_none [] = refl
append_none (w ∷ words) = ap (λ ws. w ∷ ws) (append_none words)

-- all marks are taken
pub outcome_end : (numbers : Numbers) (words : List (List ℕ)) (word : List ℕ) → outcome numbers words [] word ≡ command_for word words numbers
outcome_end numbers words word =
    outcome_same {known' = true} {tests' = λ f. true} word refl (λ f. choice_end (numbers f)) (append_none words) (λ f. number_end (numbers f))

-- names tell fields apart
named_back : List ℕ → Field
named_back name =
    cond (bytes_eq name (name_of Leaves)) Leaves (cond (bytes_eq name (name_of Items)) Items (cond (bytes_eq name (name_of Heads)) Heads
    (cond (bytes_eq name (name_of Values)) Values (cond (bytes_eq name (name_of Lanes)) Lanes (cond (bytes_eq name (name_of Soft)) Soft
    (cond (bytes_eq name (name_of Hard)) Hard (cond (bytes_eq name (name_of MergeSum)) MergeSum
    (cond (bytes_eq name (name_of Salt)) Salt (cond (bytes_eq name (name_of Tries)) Tries (cond (bytes_eq name (name_of Workers)) Workers Sessions))))))))))

named_same : (f : Field) → named_back (name_of f) ≡ f
unfolding named_back
named_same Leaves = refl
named_same Items = refl
named_same Heads = refl
named_same Values = refl
named_same Lanes = refl
named_same Soft = refl
named_same Hard = refl
named_same MergeSum = refl
named_same Salt = refl
named_same Tries = refl
named_same Workers = refl
named_same Sessions = refl

name_apart : (f g : Field) → name_of f ≡ name_of g → f ≡ g
name_apart f g e = sym (named_same f) ∙ ap named_back e ∙ named_same g

field_known : (f : Field) → is_known (name_of f) ≡ true
field_known Leaves = refl
field_known Items = refl
field_known Heads = refl
field_known Values = refl
field_known Lanes = refl
field_known Soft = refl
field_known Hard = refl
field_known MergeSum = refl
field_known Salt = refl
field_known Tries = refl
field_known Workers = refl
field_known Sessions = refl

-- what holds of all fields holds of each
rest_pass : (t : Field → Bool) (f : Field) (fs : List Field) → list_all t (f ∷ fs) ≡ true → (t f ≡ true) × (list_all t fs ≡ true)
rest_pass t f fs h = and_parts (t f) (list_all t fs) h

at_place : (t : Field → Bool) (fs : List Field) (i : ℕ) (d : Field) → i < length fs → list_all t fs ≡ true → t (get_or fs i d) ≡ true
at_place t [] i d within h = absurd (omega arith)
at_place t (f ∷ fs) zero d within h = (rest_pass t f fs h).0
at_place t (f ∷ fs) (suc i) d within h = at_place t fs i d (omega arith) (rest_pass t f fs h).1

each_field : (t : Field → Bool) → list_all t fields ≡ true → (f : Field) → t f ≡ true
each_field t h Leaves = at_place t fields 0 Leaves (omega arith) h
each_field t h Items = at_place t fields 1 Leaves (omega arith) h
each_field t h Heads = at_place t fields 2 Leaves (omega arith) h
each_field t h Values = at_place t fields 3 Leaves (omega arith) h
each_field t h Lanes = at_place t fields 4 Leaves (omega arith) h
each_field t h Soft = at_place t fields 5 Leaves (omega arith) h
each_field t h Hard = at_place t fields 6 Leaves (omega arith) h
each_field t h MergeSum = at_place t fields 7 Leaves (omega arith) h
each_field t h Salt = at_place t fields 8 Leaves (omega arith) h
each_field t h Tries = at_place t fields 9 Leaves (omega arith) h
each_field t h Workers = at_place t fields 10 Leaves (omega arith) h
each_field t h Sessions = at_place t fields 11 Leaves (omega arith) h

-- a value that is no number, or a second value, is no choice
choice_fault : (o : Option ℕ) (value : List ℕ) (vs : List (List ℕ)) → (is_some o ≡ true) ⊎ (number value ≡ None) → choice_from o (value ∷ vs) ≡ false
choice_fault (Some n) value vs fault = refl
choice_fault None value (v ∷ vs) fault = refl
choice_fault None value [] fault =
    ⊎_elim
    (λ some. cc)
    (λ none. false_from_ne_true (is_number value) (λ is. let e = cond-true (is_number value) (Some (digits_value 10 value)) None is in cc))
    fault

-- a number for a field that had none
choice_number : (value : List ℕ) (vs : List (List ℕ)) (n : ℕ) → number value ≡ Some n → choice_from (Some n) vs ≡ choice_from None (value ∷ vs)
choice_number value [] n is = sym (cond_some (is_number value) (digits_value 10 value) n is).0
choice_number value (v ∷ vs) n is = refl

values_here : (name value : List ℕ) (ms : List Mark) (f : Field) → name ≡ name_of f → values (Chosen name value ∷ ms) f ≡ value ∷ values ms f
values_here name value ms f named = cond-true (bytes_eq name (name_of f)) _ _ ((bytes_eq-Decides name (name_of f)).1 named)

values_other : (name value : List ℕ) (ms : List Mark) (f g : Field) → name ≡ name_of f → g ≢ f → values (Chosen name value ∷ ms) g ≡ values ms g
values_other name value ms f g named other =
    cond-false (bytes_eq name (name_of g)) _ _ (false_from_ne_true _ (λ same. other (sym (name_apart f g (sym named ∙ (bytes_eq-Decides name (name_of g)).0 same)))))

-- fields are the same or not
field_cases : (f g : Field) → (g ≡ f) ⊎ (g ≢ f)
field_cases f g =
    elim (cases_Bool (bytes_eq (name_of f) (name_of g))) [
      | inl equal ↦ inl (sym (name_apart f g ((bytes_eq-Decides (name_of f) (name_of g)).0 equal)))
      | inr apart ↦ inr (λ same. both_ways _ apart ((bytes_eq-Decides (name_of f) (name_of g)).1 (ap name_of (sym same))))
    ]

-- one option more, at each field
chose_at : {A : Type 0} (from : Option ℕ → List (List ℕ) → A) → ((value : List ℕ) (vs : List (List ℕ)) (n : ℕ) → number value ≡ Some n → from (Some n) vs ≡ from None (value ∷ vs)) → (before : Choices) (name value : List ℕ) (now : Choices) → Chose before name value now → (ms : List Mark) (g : Field) → from (number_at now g) (values ms g) ≡ from (number_at before g) (values (Chosen name value ∷ ms) g)
chose_at from step before name value now chose ms g =
    ⊎_elim
    (λ (same : g ≡ chose.field).
    ap (λ f. from (number_at now f) (values ms f)) same
    ∙ ap (λ o. from o (values ms chose.field)) chose.here
    ∙ step value (values ms chose.field) chose.taken chose.is
    ∙ ap (λ o. from o (value ∷ values ms chose.field)) (sym chose.free)
    ∙ ap (from (number_at before chose.field)) (sym (values_here name value ms chose.field chose.named))
    ∙ ap (λ f. from (number_at before f) (values (Chosen name value ∷ ms) f)) (sym same))
    (λ (other : g ≢ chose.field).
    ap (λ o. from o (values ms g)) (chose.others g other)
    ∙ ap (from (number_at before g)) (sym (values_other name value ms chose.field g chose.named other)))
    (field_cases chose.field g)

-- a mark that is taken
pub takes_outcome : (before : Choices) (m : Mark) (now : Choices) → Takes before m now → (ms : List Mark) (word : List ℕ) → outcome (number_at now) (list_of now.words) ms word ≡ outcome (number_at before) (list_of before.words) (m ∷ ms) word
takes_outcome before (Positional w) now takes ms word =
    outcome_same word refl
    (λ f. ap (λ o. choice_from o (values ms f)) (takes.0 f))
    (ap (λ ws. ws ++ positional ms) takes.1 ∙ append_assoc (list_of before.words) (w ∷ []) (positional ms))
    (λ f. ap (λ o. number_from o (values ms f)) (takes.0 f))
takes_outcome before (Chosen name value) now chose ms word =
    outcome_same word
    (ap (λ t. t && list_all is_known (names ms)) (sym (ap is_known chose.named ∙ field_known chose.field)))
    (chose_at choice_from choice_number before name value now chose ms)
    (ap (λ ws. ws ++ positional ms) chose.words)
    (chose_at number_from (λ value vs n is. sym is) before name value now chose ms)

same_cond : {A : Type 0} (b : Bool) (x y z : A) → x ≡ z → y ≡ z → cond b x y ≡ z
same_cond b x y z p q = cond_both b x y (λ v. v ≡ z) (λ _. p) (λ _. q)

fill_crowded : (a b w : List ℕ) (rest more : List (List ℕ)) (k : Shape) → fill (a ∷ b ∷ (rest ++ w ∷ more)) k ≡ None
fill_crowded a b w [] more k = refl
fill_crowded a b w (x ∷ rest) more k = refl

-- no command has three positional words
crowded : (v : Verb) (words : List (List ℕ)) (w : List ℕ) (more : List (List ℕ)) → 2 ≤ length words → (numbers : Numbers) (k : Shape) → command_with v (words ++ w ∷ more) numbers k ≡ None
crowded v [] w more two numbers k = absurd (omega arith)
crowded v (a ∷ []) w more two numbers k = absurd (omega arith)
crowded verbs.Run (a ∷ b ∷ rest) w more two numbers k = refl
crowded verbs.Lanes (a ∷ b ∷ rest) w more two numbers k = refl
crowded verbs.Serve (a ∷ b ∷ rest) w more two numbers k = refl
crowded verbs.Fill (a ∷ b ∷ rest) w more two numbers k = fill_crowded a b w rest more k

crowded_by : (o : Option Verb) (words : List (List ℕ)) (w : List ℕ) (more : List (List ℕ)) → 2 ≤ length words → (numbers : Numbers) → command_by o (words ++ w ∷ more) numbers ≡ None
crowded_by None words w more two numbers = refl
crowded_by (Some v) words w more two numbers = same_cond _ _ _ None (crowded v words w more two numbers _) refl

-- a mark that is refused
pub refused_outcome : (before : Choices) (m : Mark) → IsRefused before m → (ms : List Mark) (word : List ℕ) → outcome (number_at before) (list_of before.words) (m ∷ ms) word ≡ None
refused_outcome before (Positional w) two ms word =
    same_cond _ _ _ None (crowded_by (verb_of word) (list_of before.words) w (positional ms) two _) refl
refused_outcome before (Chosen name value) (inl unknown) ms word = cond-false _ _ _ (and_left _ _ (and_left _ _ unknown))
refused_outcome before (Chosen name value) (inr bad) ms word =
    let tests : Field → Bool = λ f. choice_from (number_at before f) (values (Chosen name value ∷ ms) f) in
    let off : tests bad.field ≡ false =
    ap (choice_from (number_at before bad.field)) (values_here name value ms bad.field bad.named) ∙ choice_fault (number_at before bad.field) value (values ms bad.field) bad.fault in
    cond-false _ _ _ (and_right _ _ (false_from_ne_true _ (λ all. both_ways _ off (each_field tests all bad.field))))
