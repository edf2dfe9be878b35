-- How a line is cut at its spaces.
use Rattle.std.proofs.Common.{◌≡◌, ℕ, ◌+◌, ◌<◌, ◌≤◌, Bool, true, false, cond, eqb, ◌||◌, List, [], ◌∷◌, ◌++◌, length, take, drop, All, refl, sym, ap, ◌∙◌, subst, arith, ⊎_elim}
use Rattle.std.specs.List.{onto_first, list_any}
use Rattle.std.proofs.lemmas.Bool.{false≢true, cond-true, cond-false, cases_Bool, or_parts, false_from_ne_true, eqb-true}
use Rattle.std.proofs.lemmas.List.{take-append-drop, drop_more, get_or-take, length-take-le}
use Rattle.std.proofs.lemmas.List.Elements.{All-nil, All-cons, All-from_get_or}
use Rattle.std.proofs.lemmas.List.Splits.{slice_split_none, slice_split_at}
use Rattle.memchr.specs.Find.{Passes, is_byte, Nowhere}
use Rattle.std.proofs.Common.{None, Some, Err}
use Rattle.line_protocol.specs.Words.{words_of, one}
use Rattle.line_protocol.specs.Requests.{quit}
use Rattle.line_protocol.specs.declared.fault.Fault.TheVariants.{Words}
use Rattle.line_protocol.specs.declared.fault.RequestFault.TheVariants.{Fault}

abbrev pub IsSpace : ℕ → Bool
IsSpace b = eqb b 32

no_space : (bytes : List ℕ) (n : ℕ) → n ≤ length bytes → Nowhere (Passes (is_byte 32) bytes) 0 n → All (λ b. IsSpace b ≡ false) (take n bytes)
no_space bytes n within none =
    All-from_get_or (λ b. IsSpace b ≡ false) (take n bytes) 0 (λ i below. let low : i < n = omega (arith, length-take-le n bytes) in subst (λ b. IsSpace b ≡ false) (sym (get_or-take n bytes i 0 low)) (false_from_ne_true _ (none i (omega arith) low)))

All-from_list_any : (p : ℕ → Bool) (bytes : List ℕ) → list_any p bytes ≡ false → All (λ b. p b ≡ false) bytes
All-from_list_any p [] none = All-nil (λ b. p b ≡ false)
All-from_list_any p (b ∷ bytes) none =
    let parts = or_parts (p b) (list_any p bytes) none in
    All-cons (λ b. p b ≡ false) b bytes parts.0 (All-from_list_any p bytes parts.1)

pub words_one : (bytes : List ℕ) → Nowhere (Passes (is_byte 32) bytes) 0 (length bytes) → words_of bytes ≡ bytes ∷ []
words_one bytes none =
    slice_split_none IsSpace bytes (All-from_get_or (λ b. IsSpace b ≡ false) bytes 0 (λ i below. false_from_ne_true _ (none i (omega arith) below)))

pub words_more : (bytes : List ℕ) (at : ℕ) → at < length bytes → Passes (is_byte 32) bytes at → Nowhere (Passes (is_byte 32) bytes) 0 at → words_of bytes ≡ take at bytes ∷ words_of (drop (at + 1) bytes)
words_more bytes at within here none =
    let whole : bytes ≡ take at bytes ++ 32 ∷ drop (at + 1) bytes =
    sym (take-append-drop at bytes) ∙ ap (λ zs. take at bytes ++ zs) (drop_more bytes at 0 within ∙ ap (λ b. b ∷ drop (at + 1) bytes) (eqb-true _ _ here)) in
    ap words_of whole ∙ slice_split_at IsSpace (take at bytes) 32 (drop (at + 1) bytes) (no_space bytes at (omega arith) none) refl

-- there is a first word
pub record IsSome (words : List (List ℕ)) : Type 0 where
  pub first : List ℕ
  pub others : List (List ℕ)
  pub whole : words ≡ first ∷ others

onto_some : (b : ℕ) (words : List (List ℕ)) → IsSome (onto_first b words)
onto_some b [] = record { first = b ∷ []; others = []; whole = refl }
onto_some b (w ∷ words) = record { first = b ∷ w; others = words; whole = refl }

pub words_some : (bytes : List ℕ) → IsSome (words_of bytes)
words_some [] = record { first = []; others = []; whole = refl }
words_some (b ∷ bytes) =
    elim (eqb b 32) as (λ t. IsSome (cond t ([] ∷ words_of bytes) (onto_first b (words_of bytes)))) [
      | true ↦ record { first = []; others = words_of bytes; whole = refl }
      | false ↦ onto_some b (words_of bytes)
    ]

-- there are two words
pub record IsMany (words : List (List ℕ)) : Type 0 where
  pub first : List ℕ
  pub second : List ℕ
  pub others : List (List ℕ)
  pub whole : words ≡ first ∷ second ∷ others

-- with a space there are two words
words_many : (bytes : List ℕ) → list_any IsSpace bytes ≡ true → IsMany (words_of bytes)
words_many [] any = absurd (false≢true any)
words_many (b ∷ bytes) any =
    ⊎_elim
    (λ here.
    let some = words_some bytes in
    record { first = []; second = some.first; others = some.others; whole = cond-true (eqb b 32) ([] ∷ words_of bytes) (onto_first b (words_of bytes)) here ∙ ap (λ ws. [] ∷ ws) some.whole })
    (λ other.
    let many = words_many bytes (sym (ap (λ t. t || list_any IsSpace bytes) other) ∙ any) in
    record { first = b ∷ many.first; second = many.second; others = many.others; whole = cond-false (eqb b 32) ([] ∷ words_of bytes) (onto_first b (words_of bytes)) other ∙ ap (onto_first b) many.whole })
    (cases_Bool (eqb b 32))

pub one_many : (bytes : List ℕ) → list_any IsSpace bytes ≡ true → one (words_of bytes) ≡ None
one_many bytes any = ap one (words_many bytes any).whole

pub one_whole : (bytes : List ℕ) → list_any IsSpace bytes ≡ false → one (words_of bytes) ≡ Some bytes
one_whole bytes none = ap one (slice_split_none IsSpace bytes (All-from_list_any IsSpace bytes none))

pub quit_more : (words : List (List ℕ)) → IsSome words → quit words ≡ Err (Fault Words)
quit_more words some = ap quit some.whole
