-- Whether an anchor begins with a prefix, by its mark and its bytes.
use Rattle.std.proofs.Common.{◌≡◌, ℕ, suc, ◌+◌, ◌-◌, ◌<◌, ◌≤◌, List, [], ◌∷◌, ◌++◌, length, take, get_or, refl, sym, ap, ◌∙◌, arith, length-take}
use Rattle.std.proofs.Math.Seq.{take-suc}
use Rattle.std.proofs.lemmas.List.{append_cancel_left, length_push}
use Rattle.row_words.specs.declared.shape.Shape.{Shape}
use Rattle.row_words.specs.Bytes.{byte_at, bytes_from}
use Rattle.row_words.specs.Layout.{leaf_word}
use Rattle.row_words.specs.Decode.{mark_at, anchor_at}
use Rattle.row_words.proofs.Packed.{bytes_take, bytes_get, length-bytes, too_short}

-- a prefix that is longer than the anchor
pub anchor_short : (k : Shape) (ws : List ℕ) (leaf : ℕ) (prefix : List ℕ) (mark : ℕ) → mark ≡ mark_at k ws leaf → 0 < mark → mark ≤ length prefix → take (length prefix) (anchor_at k ws leaf) ≡ prefix → ⊥
anchor_short k ws leaf prefix mark e some l same = too_short ws _ _ prefix (omega (arith, e, some, l)) same

-- else its bytes are those of the words
pub anchor_bytes : (k : Shape) (ws : List ℕ) (leaf n mark : ℕ) → mark ≡ mark_at k ws leaf → n < mark → take n (anchor_at k ws leaf) ≡ bytes_from ws (leaf_word k leaf + 1) n
anchor_bytes k ws leaf n mark e l = bytes_take ws _ n _ (omega (arith, e, l))

-- one byte more is longer than the anchor
pub anchor_ends : (k : Shape) (ws : List ℕ) (leaf : ℕ) (prefix : List ℕ) (byte mark : ℕ) → mark ≡ mark_at k ws leaf → mark - 1 ≤ length prefix → take (length prefix + 1) (anchor_at k ws leaf) ≡ prefix ++ byte ∷ [] → ⊥
anchor_ends k ws leaf prefix byte mark e l same =
    let some = length-take (length prefix + 1) (anchor_at k ws leaf) in
    let all = length-bytes ws (leaf_word k leaf + 1) (mark_at k ws leaf - 1) in
    omega (arith, e, l, some, all, ap length same, length_push prefix byte)

same_front : (xs ys : List ℕ) (x y : ℕ) → length xs ≡ length ys → xs ++ x ∷ [] ≡ ys ++ y ∷ [] → xs ≡ ys
same_front [] [] x y l e = refl
same_front [] (b ∷ ys) x y l e = absurd (omega (arith, l))
same_front (a ∷ xs) [] x y l e = absurd (omega (arith, l))
same_front (a ∷ xs) (b ∷ ys) x y l e =
    let head : a ≡ b = cc in
    let rest : xs ++ x ∷ [] ≡ ys ++ y ∷ [] = cc in
    let front = same_front xs ys x y (omega (arith, l)) rest in
    λ i. head i ∷ front i

same_last : (xs ys : List ℕ) (x y : ℕ) → xs ≡ ys → xs ++ x ∷ [] ≡ ys ++ y ∷ [] → x ≡ y
same_last xs ys x y front e =
    let last : x ∷ [] ≡ y ∷ [] = append_cancel_left ys (x ∷ []) (y ∷ []) (sym (ap (λ (zs : List ℕ). zs ++ x ∷ []) front) ∙ e) in
    cc

module _ (k : Shape) (ws : List ℕ) (leaf : ℕ) (prefix : List ℕ) (byte mark : ℕ) (e : mark ≡ mark_at k ws leaf) (l : length prefix < mark - 1) where
  -- the anchor's bytes up to the one behind the prefix
  next_byte : take (length prefix + 1) (anchor_at k ws leaf) ≡ bytes_from ws (leaf_word k leaf + 1) (length prefix) ++ byte_at ws (leaf_word k leaf + 1) (length prefix) ∷ []
  next_byte =
      let n : ℕ = length prefix in
      let a : List ℕ = anchor_at k ws leaf in
      let all : length a ≡ mark_at k ws leaf - 1 = length-bytes ws (leaf_word k leaf + 1) (mark_at k ws leaf - 1) in
      let more : n + 1 ≡ suc n = omega arith in
      ap (λ (m : ℕ). take m a) more
      ∙ take-suc a n 0 (omega (arith, e, l, all))
      ∙ ap (λ (zs : List ℕ). zs ++ get_or a n 0 ∷ []) (anchor_bytes k ws leaf n mark e (omega (arith, l)))
      ∙ ap (λ (b : ℕ). bytes_from ws (leaf_word k leaf + 1) n ++ b ∷ []) (sym (bytes_get ws (leaf_word k leaf + 1) (mark_at k ws leaf - 1) a n refl (omega (arith, e, l))))

  pub goes_on : bytes_from ws (leaf_word k leaf + 1) (length prefix) ≡ prefix → byte_at ws (leaf_word k leaf + 1) (length prefix) ≡ byte → take (length prefix + 1) (anchor_at k ws leaf) ≡ prefix ++ byte ∷ []
  goes_on front last = next_byte ∙ ap (λ (zs : List ℕ). zs ++ byte_at ws (leaf_word k leaf + 1) (length prefix) ∷ []) front ∙ ap (λ (b : ℕ). prefix ++ b ∷ []) last

  pub goes_front : take (length prefix + 1) (anchor_at k ws leaf) ≡ prefix ++ byte ∷ [] → bytes_from ws (leaf_word k leaf + 1) (length prefix) ≡ prefix
  goes_front same = same_front _ prefix _ byte (length-bytes ws (leaf_word k leaf + 1) (length prefix)) (sym next_byte ∙ same)

  pub goes_last : take (length prefix + 1) (anchor_at k ws leaf) ≡ prefix ++ byte ∷ [] → byte_at ws (leaf_word k leaf + 1) (length prefix) ≡ byte
  goes_last same = same_last _ prefix _ byte (goes_front same) (sym next_byte ∙ same)
