-- What single writes change, and what stays.
use Rattle.std.proofs.Common.{◌≡◌, ◌≢◌, ℕ, ◌+◌, ◌-◌, ◌*◌, ◌/◌, ◌%◌, ◌^◌, ◌<◌, ◌≤◌, inl, inr, List, [], ◌∷◌, get_or, ap, ◌∙◌, arith}
use Rattle.std.specs.Prelude.{◌==◌}
use Rattle.std.proofs.lemmas.Bool.{cases_order}
use Rattle.row_words.specs.declared.shape.Shape.{Shape}
use Rattle.row_words.specs.declared.rows.ItemRow.{ItemRow}
use Rattle.row_words.specs.Layout.{item_word, leaf_word, rows_begin}
use Rattle.row_words.specs.Bytes.{bytes_from}
use Rattle.row_words.specs.Decode.{hash_at, item_at, mark_at}
use Rattle.row_words.proofs.Packed.{bytes_same}
use Rattle.row_words.specs.declared.layout.TheConstants.{UPPER, LENGTHS, ANCHOR_MARK}
use Rattle.meta_trie.specs.Words.{Put, Changed, SameAnchors, Codes}
use Rattle.meta_trie.proofs.Segments.{same_item}

-- where the words of the leaf rows stay, the anchors do
pub anchors_same : (k : Shape) (old new : List ℕ) → ((x : ℕ) → rows_begin k ≤ x → get_or new x 0 ≡ get_or old x 0) → SameAnchors k old new
anchors_same k old new same leaf live =
    let m : mark_at k new leaf ≡ mark_at k old leaf = same (leaf_word k leaf) (omega arith) in (
      m,
      ap (λ (n : ℕ). bytes_from new (leaf_word k leaf + 1) (n - 1)) m
          ∙ bytes_same new old (leaf_word k leaf + 1) (leaf_word k leaf + 1) (mark_at k old leaf - 1)
          (λ j lt. ap (λ (w : ℕ). w / 2 ^ (8 * (j % 8)) % 256) (same (leaf_word k leaf + 1 + j / 8) (omega arith))),
    )

-- an item was written behind its hash
module _ (k : Shape) (ws w : List ℕ) (i link sides b0 b1 b2 b3 : ℕ) (lt : i < k.items) (p : Put ws w (item_word k i + 1) (link ∷ sides ∷ b0 ∷ b1 ∷ b2 ∷ b3 ∷ [])) where
  far : (j o : ℕ) → j ≢ i → o < 8 → get_or w (item_word k j + o) 0 ≡ get_or ws (item_word k j + o) 0
  far j o ne l = elim (cases_order j i) [
    | inl e ↦ absurd (ne e)
    | inr r ↦ elim r [ inl below ↦ p.before _ (omega arith) | inr above ↦ p.behind _ (omega arith) ]
  ]

  far_hash : (j : ℕ) → j ≢ i → hash_at k w j ≡ hash_at k ws j
  far_hash j ne = elim (cases_order j i) [
    | inl e ↦ absurd (ne e)
    | inr r ↦ elim r [ inl below ↦ p.before _ (omega arith) | inr above ↦ p.behind _ (omega arith) ]
  ]

  here : (o : ℕ) → o < 6 → get_or w (item_word k i + (o + 1)) 0 ≡ get_or (link ∷ sides ∷ b0 ∷ b1 ∷ b2 ∷ b3 ∷ []) o 0
  here o l = ap (λ (x : ℕ). get_or w x 0) (omega arith) ∙ p.inside o l

  item_here : (row : ItemRow) → Codes row (item_at k ws i).next link sides (b0 ∷ b1 ∷ b2 ∷ b3 ∷ []) → item_at k w i ≡ record row { next = (item_at k ws i).next }
  item_here row codes =
      let e1 : get_or w (item_word k i + 1) 0 ≡ link = here 0 (omega arith) in let e2 : get_or w (item_word k i + 2) 0 ≡ sides = here 1 (omega arith) in
      let e3 : get_or w (item_word k i + 3) 0 ≡ b0 = here 2 (omega arith) in let e4 : get_or w (item_word k i + 4) 0 ≡ b1 = here 3 (omega arith) in
      let e5 : get_or w (item_word k i + 5) 0 ≡ b2 = here 4 (omega arith) in let e6 : get_or w (item_word k i + 6) 0 ≡ b3 = here 5 (omega arith) in
      let bits : get_or w (item_word k i + 3) 0 ∷ get_or w (item_word k i + 4) 0 ∷ get_or w (item_word k i + 5) 0 ∷ get_or w (item_word k i + 6) 0 ∷ [] ≡ row.bits = cc in
      let next : get_or w (item_word k i + 1) 0 % UPPER ≡ (item_at k ws i).next = ap (λ (w : ℕ). w % UPPER) e1 ∙ codes.next_is in
      let len : get_or w (item_word k i + 1) 0 / UPPER % LENGTHS ≡ row.len = ap (λ (w : ℕ). w / UPPER % LENGTHS) e1 ∙ codes.len_is in
      let mark : (get_or w (item_word k i + 1) 0 / ANCHOR_MARK % 2 == 1) ≡ row.is_anchor = ap (λ (w : ℕ). w / ANCHOR_MARK % 2 == 1) e1 ∙ codes.mark_is in
      let first : get_or w (item_word k i + 2) 0 % UPPER ≡ row.leftmost = ap (λ (w : ℕ). w % UPPER) e2 ∙ codes.first_is in
      let last : get_or w (item_word k i + 2) 0 / UPPER ≡ row.rightmost = ap (λ (w : ℕ). w / UPPER) e2 ∙ codes.last_is in
      cc

  rows_far : (x : ℕ) → rows_begin k ≤ x → get_or w x 0 ≡ get_or ws x 0
  rows_far x l = p.behind x (omega arith)

  pub changed_words : (row : ItemRow) → Codes row (item_at k ws i).next link sides (b0 ∷ b1 ∷ b2 ∷ b3 ∷ []) → Changed k ws w i row
  changed_words row codes = record {
    item = item_here row codes;
    hash = p.before (item_word k i) (omega arith);
    items = λ j ne l. record { item = same_item k w ws j (λ o a b. far j o ne (omega arith)); hash = far_hash j ne };
    heads = λ c l. ap (λ (w : ℕ). w % UPPER) (p.before (4 + c) (omega arith));
    anchors = anchors_same k ws w rows_far;
    rest = record { rows = rows_far; longest = p.before 0 (omega arith); live = p.before 3 (omega arith) };
    used = p.before 1 (omega arith);
    free = p.before 2 (omega arith);
  }
