-- Bytes that go from a buffer to its writer.
use Rattle.std.proofs.Common.{◌≡◌, ℕ, ◌+◌, ◌≤◌, List, ◌++◌, Option, Some, None, length, take, drop, sym, ap, subst, ◌∙◌, append-nil, take-append-drop, take_all}
use Rattle.std.proofs.lemmas.List.{drop-drop}
use Rattle.std.proofs.KnownBytes.{append_known-moved}
use Rattle.std.specs.Io.KnownBytes.{Appends, Keeps, append_known}

-- without a byte, nothing was written
pub appends_none : (a b : Option (List ℕ)) (bytes : List ℕ) (n : ℕ) → n ≡ 0 → Appends a b (take n bytes) → Keeps a b
appends_none None b bytes n zero wrote = tt
appends_none (Some x) None bytes n zero wrote = absurd wrote
appends_none (Some x) (Some y) bytes n zero wrote = wrote ∙ (ap (λ k. x ++ take k bytes) zero ∙ append-nil x)

-- the next n bytes behind those that were handed on go to the writer
pub handed_more : (a b : Option (List ℕ)) (items bytes : List ℕ) (at n most : ℕ) → bytes ≡ items → Appends a b (take n (take most (drop at bytes)))
    → length (drop at bytes) ≤ most → Keeps (append_known a (drop at items)) (append_known b (drop (at + n) items))
handed_more a b items bytes at n most same taken fits =
    let rest = drop at bytes in
    let wrote = subst (λ (ys : List ℕ). Appends a b (take n ys)) (take_all most rest fits) taken in
    let behind = drop-drop n at bytes ∙ ap (drop (at + n)) same in
    append_known-moved a b (take n rest) (drop (at + n) items) (drop at items) wrote (ap (drop at) (sym same) ∙ (sym (take-append-drop n rest) ∙ ap (λ ys. take n rest ++ ys) behind))
