-- Where a new item was written, and what stayed.
use Rattle.std.proofs.Common.{◌≡◌, ◌≢◌, ℕ, ◌+◌, ◌-◌, ◌*◌, ◌/◌, ◌%◌, ◌^◌, ◌<◌, ◌≤◌, inl, inr, List, [], ◌∷◌, get_or, sym, ap, ◌∙◌, subst, arith}
use Rattle.std.specs.Prelude.{◌==◌}
use Rattle.std.proofs.lemmas.Bool.{cases_order}
use Rattle.row_words.specs.declared.shape.Shape.{Shape}
use Rattle.row_words.specs.declared.rows.ItemRow.{ItemRow}
use Rattle.row_words.specs.Layout.{item_word, leaf_word, rows_begin}
use Rattle.row_words.specs.Shape.{IsShape}
use Rattle.row_words.specs.Bytes.{bytes_from}
use Rattle.row_words.specs.Decode.{head_at, hash_at, item_at, mark_at}
use Rattle.row_words.proofs.Packed.{bytes_same}
use Rattle.row_words.specs.declared.layout.TheConstants.{UPPER, LENGTHS, ANCHOR_MARK}
use Rattle.key_bytes.specs.Fnv.{prefix_hash}
use Rattle.meta_trie.specs.Trie.{bucket_of, used_of, free_of, free_after}
use Rattle.meta_trie.specs.Words.{Put, Linked, SameAnchors, Codes, Written}

-- six words give an item
pub same_item : (k : Shape) (w v : List ℕ) (j : ℕ) → ((o : ℕ) → 0 < o → o < 7 → get_or w (item_word k j + o) 0 ≡ get_or v (item_word k j + o) 0) → item_at k w j ≡ item_at k v j
same_item k w v j h =
    let a = h 1 (omega arith) (omega arith) in let b = h 2 (omega arith) (omega arith) in let c = h 3 (omega arith) (omega arith) in
    let d = h 4 (omega arith) (omega arith) in let e = h 5 (omega arith) (omega arith) in let f = h 6 (omega arith) (omega arith) in cc

module _ (k : Shape) (ws w1 w2 w3 : List ℕ) (i b hash link sides b0 b1 b2 b3 : ℕ)
    (lt : i < k.items) (bl : b < k.heads)
    (p1 : Put ws w1 (item_word k i) (hash ∷ link ∷ sides ∷ b0 ∷ b1 ∷ b2 ∷ b3 ∷ []))
    (p2 : Put w1 w2 (4 + b) ((i + 1) ∷ []))
    (p3 : Put w2 w3 1 ((used_of ws + 1) ∷ free_after k ws i ∷ [])) where
  -- the items and leaf rows are as the first write left them
  high : (x : ℕ) → 4 + k.heads ≤ x → get_or w3 x 0 ≡ get_or w1 x 0
  high x l = p3.behind x (omega arith) ∙ p2.behind x (omega arith)

  far : (j o : ℕ) → j ≢ i → o < 8 → get_or w3 (item_word k j + o) 0 ≡ get_or ws (item_word k j + o) 0
  far j o ne l = high (item_word k j + o) (omega arith) ∙ elim (cases_order j i) [
    | inl e ↦ absurd (ne e)
    | inr r ↦ elim r [ inl below ↦ p1.before _ (omega arith) | inr above ↦ p1.behind _ (omega arith) ]
  ]

  far_hash : (j : ℕ) → j ≢ i → hash_at k w3 j ≡ hash_at k ws j
  far_hash j ne = high (item_word k j) (omega arith) ∙ elim (cases_order j i) [
    | inl e ↦ absurd (ne e)
    | inr r ↦ elim r [ inl below ↦ p1.before _ (omega arith) | inr above ↦ p1.behind _ (omega arith) ]
  ]

  here : (o : ℕ) → o < 7 → get_or w3 (item_word k i + o) 0 ≡ get_or (hash ∷ link ∷ sides ∷ b0 ∷ b1 ∷ b2 ∷ b3 ∷ []) o 0
  here o l = high (item_word k i + o) (omega arith) ∙ p1.inside o l

  leaf_far : (x : ℕ) → rows_begin k ≤ x → get_or w3 x 0 ≡ get_or ws x 0
  leaf_far x l = high x (omega arith) ∙ p1.behind x (omega arith)

  anchors_far : SameAnchors k ws w3
  anchors_far leaf live =
      let l : leaf < k.leaves = live.0 in
      let m : mark_at k w3 leaf ≡ mark_at k ws leaf = leaf_far (leaf_word k leaf) (omega arith) in (
        m,
        ap (λ (n : ℕ). bytes_from w3 (leaf_word k leaf + 1) (n - 1)) m
            ∙ bytes_same w3 ws (leaf_word k leaf + 1) (leaf_word k leaf + 1) (mark_at k ws leaf - 1)
            (λ j lt. ap (λ (w : ℕ). w / 2 ^ (8 * (j % 8)) % 256) (leaf_far (leaf_word k leaf + 1 + j / 8) (omega arith))),
      )

  head_far : (c : ℕ) → c ≢ b → c < k.heads → head_at k w3 c ≡ head_at k ws c
  head_far c ne l = ap (λ (w : ℕ). w % UPPER) (p3.behind (4 + c) (omega arith) ∙ elim (cases_order c b) [
    | inl e ↦ absurd (ne e)
    | inr r ↦ elim r [ inl below ↦ p2.before (4 + c) (omega arith) | inr above ↦ p2.behind (4 + c) (omega arith) ]
  ] ∙ p1.before (4 + c) (omega arith))

  head_here : IsShape k → head_at k w3 b ≡ i + 1
  head_here ranges =
      let same : 4 + b ≡ 4 + b + 0 = omega arith in
      let read : get_or w3 (4 + b) 0 ≡ i + 1 = p3.behind (4 + b) (omega arith) ∙ ap (λ (x : ℕ). get_or w2 x 0) same ∙ p2.inside 0 (omega arith) in
      let most = ranges.items.1 in
      ap (λ (w : ℕ). w % UPPER) read ∙ omega arith

  item_here : (name : List ℕ) (row : ItemRow) → bucket_of k name ≡ b → Codes row (head_at k ws b) link sides (b0 ∷ b1 ∷ b2 ∷ b3 ∷ []) → item_at k w3 i ≡ record row { next = head_at k ws (bucket_of k name) }
  item_here name row at codes =
      let e1 = here 1 (omega arith) in let e2 = here 2 (omega arith) in let e3 = here 3 (omega arith) in
      let e4 = here 4 (omega arith) in let e5 = here 5 (omega arith) in let e6 = here 6 (omega arith) in
      let bits : get_or w3 (item_word k i + 3) 0 ∷ get_or w3 (item_word k i + 4) 0 ∷ get_or w3 (item_word k i + 5) 0 ∷ get_or w3 (item_word k i + 6) 0 ∷ [] ≡ row.bits = cc in
      let next : get_or w3 (item_word k i + 1) 0 % UPPER ≡ head_at k ws (bucket_of k name) = ap (λ (w : ℕ). w % UPPER) e1 ∙ codes.next_is ∙ ap (head_at k ws) (sym at) in
      let len : get_or w3 (item_word k i + 1) 0 / UPPER % LENGTHS ≡ row.len = ap (λ (w : ℕ). w / UPPER % LENGTHS) e1 ∙ codes.len_is in
      let mark : (get_or w3 (item_word k i + 1) 0 / ANCHOR_MARK % 2 == 1) ≡ row.is_anchor = ap (λ (w : ℕ). w / ANCHOR_MARK % 2 == 1) e1 ∙ codes.mark_is in
      let first : get_or w3 (item_word k i + 2) 0 % UPPER ≡ row.leftmost = ap (λ (w : ℕ). w % UPPER) e2 ∙ codes.first_is in
      let last : get_or w3 (item_word k i + 2) 0 / UPPER ≡ row.rightmost = ap (λ (w : ℕ). w / UPPER) e2 ∙ codes.last_is in
      cc

  pub linked_words : (name : List ℕ) (row : ItemRow) → IsShape k → bucket_of k name ≡ b → free_of ws ≡ i + 1 → hash ≡ prefix_hash k.salt name → Codes row (head_at k ws b) link sides (b0 ∷ b1 ∷ b2 ∷ b3 ∷ []) → Linked k ws w3 i name row
  linked_words name row ranges at taken is codes = record {
    taken = taken;
    item = item_here name row at codes;
    hash = high (item_word k i) (omega arith) ∙ ap (λ (x : ℕ). get_or w1 x 0) (omega arith) ∙ p1.inside 0 (omega arith) ∙ is;
    items = λ j ne l. record { item = same_item k w3 ws j (λ o p q. far j o ne (omega arith)); hash = far_hash j ne };
    head = subst (λ (c : ℕ). head_at k w3 c ≡ i + 1) (sym at) (head_here ranges);
    heads = λ c ne l. head_far c (λ e. ne (e ∙ sym at)) l;
    anchors = anchors_far;
    rest = record { rows = leaf_far; longest = p3.before 0 (omega arith) ∙ p2.before 0 (omega arith) ∙ p1.before 0 (omega arith); live = p3.behind 3 (omega arith) ∙ p2.before 3 (omega arith) ∙ p1.before 3 (omega arith) };
    used = p3.inside 0 (omega arith);
    free = p3.inside 1 (omega arith);
  }

pub linked_from : (k : Shape) (ws w3 : List ℕ) (i b hash next used free : ℕ) (row : ItemRow) (name : List ℕ) → Written k ws w3 i b hash next used free row → i < k.items → IsShape k → b ≡ bucket_of k name → used ≡ used_of ws + 1 → free ≡ free_after k ws i → next ≡ head_at k ws b → free_of ws ≡ i + 1 → hash ≡ prefix_hash k.salt name → Linked k ws w3 i name row
linked_from k ws w3 i b hash next used free row name w lt ranges at u f n taken is =
    let some = ranges.heads.0 in
    let bl : b < k.heads = omega (arith, at, some) in
    linked_words k ws w.w1 w.w2 w3 i b hash w.link w.sides w.b0 w.b1 w.b2 w.b3 lt bl w.first w.second
    (subst (λ (x : ℕ). Put w.w2 w3 1 (x ∷ free_after k ws i ∷ [])) u (subst (λ (x : ℕ). Put w.w2 w3 1 (used ∷ x ∷ [])) f w.third))
    name row ranges (sym at) taken is (subst (λ (x : ℕ). Codes row x w.link w.sides (w.b0 ∷ w.b1 ∷ w.b2 ∷ w.b3 ∷ [])) n w.codes)
