-- Where no line of a text begins with a word, none is counted that has it for its first word.
use Rattle.std.proofs.Common.{◌≡◌, ℕ, ◌+◌, List, [], ◌∷◌, ◌++◌, Bool, true, false, cond, eqb, refl, sym, ap, ◌∙◌, subst, inl, inr, append_assoc, arith}
use Rattle.std.specs.List.{count_by}
use Rattle.std.proofs.lemmas.Bool.{eqb-true}
use Rattle.std.proofs.lemmas.List.Sums.{sum_by-append}
use Rattle.std.proofs.lemmas.Slice.Eq.{bytes_eq-Decides}
use Rattle.session.specs.Plain.{IsLineStart, HasLine}
use Rattle.fill_runs.specs.Summary.{lines_behind, first_word, has_word, counted}

-- a line begins with its first word
first_begins : (line : List ℕ) → (more : List ℕ) × (line ≡ first_word line ++ more)
first_begins [] = ([], refl)
first_begins (b ∷ line) =
    let rest = first_begins line in
    elim (eqb b 32) as (λ t. (more : List ℕ) × (b ∷ line ≡ cond t [] (b ∷ first_word line) ++ more)) [
      | true ↦ (b ∷ line, refl)
      | false ↦ (rest.0, ap (λ w. b ∷ w) rest.1)
    ]

word_begins : (word line : List ℕ) → has_word word line ≡ true → (more : List ℕ) × (line ≡ word ++ more)
word_begins word line has =
    let first = first_begins line in
    (first.0, first.1 ∙ ap (λ w. w ++ first.0) ((bytes_eq-Decides (first_word line) word).0 has))

-- a line that has it begins with it
not_here : (word front start bytes : List ℕ) → IsLineStart front → (HasLine word (front ++ (start ++ 10 ∷ bytes)) → ⊥) → (t : Bool) → has_word word start ≡ t → ◌≡◌ {A = ℕ} (cond t 1 0) 0
not_here word front start bytes is none false has = refl
not_here word front start bytes is none true has =
    let first = word_begins word start has in
    absurd (none (front, first.0, bytes, is, ap (λ w. front ++ (w ++ 10 ∷ bytes)) first.1 ∙ ap (λ w. front ++ w) (append_assoc word first.0 (10 ∷ bytes))))

uncounted_from : (word front start bytes : List ℕ) → IsLineStart front → (HasLine word (front ++ (start ++ bytes)) → ⊥) → count_by (has_word word) (lines_behind start bytes) ≡ 0
uncounted_from word front start [] is none = refl
uncounted_from word front start (b ∷ bytes) is none =
    by (eqb b 10) refl (uncounted_from word (front ++ (start ++ 10 ∷ [])) [] bytes (inr (front ++ start, sym (append_assoc front start (10 ∷ []))))) (uncounted_from word front (start ++ b ∷ []) bytes is)
  where
    by : (t : Bool) → eqb b 10 ≡ t → ((HasLine word ((front ++ (start ++ 10 ∷ [])) ++ bytes) → ⊥) → count_by (has_word word) (lines_behind [] bytes) ≡ 0)
        → ((HasLine word (front ++ ((start ++ b ∷ []) ++ bytes)) → ⊥) → count_by (has_word word) (lines_behind (start ++ b ∷ []) bytes) ≡ 0)
        → count_by (has_word word) (cond t (start ∷ lines_behind [] bytes) (lines_behind (start ++ b ∷ []) bytes)) ≡ 0
    by true lf next more =
        let none_lf : HasLine word (front ++ (start ++ 10 ∷ bytes)) → ⊥ = subst (λ c. HasLine word (front ++ (start ++ c ∷ bytes)) → ⊥) (eqb-true b 10 lf) none in
        let same : (front ++ (start ++ 10 ∷ [])) ++ bytes ≡ front ++ (start ++ 10 ∷ bytes) = append_assoc front (start ++ 10 ∷ []) bytes ∙ ap (λ w. front ++ w) (append_assoc start (10 ∷ []) bytes) in
        let rest = next (λ line. none_lf (subst (HasLine word) same line)) in
        let first = not_here word front start bytes is none_lf (has_word word start) refl in
        let split : count_by (has_word word) (start ∷ lines_behind [] bytes) ≡ (0 + cond (has_word word start) 1 0) + count_by (has_word word) (lines_behind [] bytes) = sum_by-append (λ line. cond (has_word word line) 1 0) (start ∷ []) (lines_behind [] bytes) in
        split ∙ omega (arith, first, rest)
    by false other next more = more (λ line. none (subst (HasLine word) (ap (λ w. front ++ w) (append_assoc start (b ∷ []) bytes)) line))

pub uncounted : (word text : List ℕ) → (HasLine word text → ⊥) → counted word text ≡ 0
uncounted word text none = uncounted_from word [] [] text (inl refl) none
