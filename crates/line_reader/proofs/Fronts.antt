-- What the buffer has of a line.
use Rattle.std.proofs.Common.{◌≡◌, ℕ, zero, suc, ◌+◌, ◌-◌, ◌<◌, ◌≤◌, min, Bool, true, false, ltb, eqb, ◌||◌, ◌⊎◌, List, [], ◌∷◌, ◌++◌, length, take, get_or, refl, sym, ap, ◌∙◌, arith, inl, inr, ⊎_elim}
use Rattle.std.proofs.lemmas.List.{take_all, length-take, length-append}
use Rattle.std.proofs.lemmas.Bool.{cond_both, cond-true, lt-ltb, le-ltb, ltb-true, ltb-false, cases_lt}
use Rattle.line_reader.specs.declared.limits.TheConstants.{LINE_ROOM, LONGEST_LINE}
use Rattle.line_reader.specs.Cut.{without_cr}
use Rattle.line_reader.specs.Told.{IsFront, tells}
use Rattle.line_reader.specs.Told.Told.{Read, Long}

take_front : (n : ℕ) (xs ys : List ℕ) → take n (xs ++ ys) ≡ take n xs ++ take (n - length (take n xs)) ys
take_front zero xs ys = refl
take_front (suc n) [] ys = let e : suc n - 0 ≡ suc n = omega arith in rw e refl
take_front (suc n) (x ∷ xs) ys =
    let e : suc n - suc (length (take n xs)) ≡ n - length (take n xs) = omega arith in
    rw e (ap (λ zs. x ∷ zs) (take_front n xs ys))

cases_le : (m n : ℕ) → (m ≤ n) ⊎ (n < m)
cases_le m n = ⊎_elim (λ less. inr less) (λ more. inl more) (cases_lt n m)

take_least : (n : ℕ) (xs : List ℕ) → take (min (length xs) n) xs ≡ take n xs
take_least n xs =
    ⊎_elim
    (λ less. let e : min (length xs) n ≡ length xs = omega arith in rw e (take_all (length xs) xs (omega arith) ∙ sym (take_all n xs (omega arith))))
    (λ more. let e : min (length xs) n ≡ n = omega arith in rw e refl)
    (cases_lt (length xs) n)

-- whether there is more
more_at : (line part bytes : List ℕ) (over : Bool) → IsFront line over part → (over || ltb (LINE_ROOM - length line) (length bytes)) ≡ ltb LINE_ROOM (length (part ++ bytes))
more_at line part bytes true front =
    let long = ltb-true LINE_ROOM (length part) (sym front.more) in
    sym (lt-ltb LINE_ROOM (length (part ++ bytes)) (omega (arith, length-append part bytes)))
more_at line part bytes false front =
    let short = ltb-false LINE_ROOM (length part) (sym front.more) in
    let all : length line ≡ length part = ap length (front.kept ∙ take_all LINE_ROOM part short) in
    ⊎_elim
    (λ fits. le-ltb _ _ (omega arith) ∙ sym (le-ltb LINE_ROOM (length (part ++ bytes)) (omega (arith, length-append part bytes))))
    (λ over. lt-ltb _ _ (omega arith) ∙ sym (lt-ltb LINE_ROOM (length (part ++ bytes)) (omega (arith, length-append part bytes))))
    (cases_le (length line + length bytes) LINE_ROOM)

-- what has room is kept
pub front_more : (line part bytes new : List ℕ) (over more : Bool) → IsFront line over part → new ≡ line ++ take (min (length bytes) (LINE_ROOM - length line)) bytes → more ≡ (over || ltb (LINE_ROOM - length line) (length bytes)) → IsFront new more (part ++ bytes)
front_more line part bytes new over more front is_new is_more =
    let kept : take (min (length bytes) (LINE_ROOM - length line)) bytes ≡ take (LINE_ROOM - length line) bytes = take_least (LINE_ROOM - length line) bytes in
    record {
      kept = is_new ∙ ap (λ zs. line ++ zs) kept ∙ ap (λ l. l ++ take (LINE_ROOM - length l) bytes) front.kept ∙ sym (take_front LINE_ROOM part bytes);
      more = is_more ∙ more_at line part bytes over front;
    }

pub front_empty : IsFront [] false []
front_empty = record { kept = refl; more = refl }

pub front_nothing : (over : Bool) (part : List ℕ) → IsFront [] over part → (part ≡ []) × (over ≡ false)
front_nothing over [] front = (refl, front.more)
front_nothing over (b ∷ part) front = absurd (omega (arith, ap length front.kept, length-take LINE_ROOM (b ∷ part)))

length-without_cr : (line : List ℕ) → length line ≤ length (without_cr line) + 1
length-without_cr line =
    cond_both (eqb (get_or line (length line - 1) 0) 13) (take (length line - 1) line) line (λ l. length line ≤ length l + 1)
    (λ _. omega (arith, length-take (length line - 1) line)) (λ _. omega arith)

pub without_cr-length : (line : List ℕ) → length (without_cr line) ≤ length line
without_cr-length line =
    cond_both (eqb (get_or line (length line - 1) 0) 13) (take (length line - 1) line) line (λ l. length l ≤ length line)
    (λ _. omega (arith, length-take (length line - 1) line)) (λ _. omega arith)

-- a line with more than has room is too long, whatever its end
pub tells_over : (line part : List ℕ) → IsFront line true part → tells (without_cr part) ≡ Long
tells_over line part front =
    let long = ltb-true LINE_ROOM (length part) (sym front.more) in
    cond-true _ Long (Read (without_cr part)) (lt-ltb LONGEST_LINE (length (without_cr part)) (omega (arith, length-without_cr part)))

-- else the buffer has it all
pub front_all : (line part : List ℕ) → IsFront line false part → line ≡ part
front_all line part front = front.kept ∙ take_all LINE_ROOM part (ltb-false _ _ (sym front.more))
