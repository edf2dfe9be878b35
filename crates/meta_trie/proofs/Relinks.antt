-- Links between items that were set, and an item that was taken out of its bucket.
use Rattle.std.proofs.Common.{◌≡◌, ◌≢◌, ℕ, ◌+◌, ◌/◌, ◌%◌, ◌<◌, ◌≤◌, inl, inr, List, [], ◌∷◌, length, get_or, sym, ap, ◌∙◌, refl, arith, eq-eqb, get_or-set_other, get_or-set_same}
use Rattle.std.specs.Prelude.{◌==◌, Bool, if◌then◌else◌}
use Rattle.std.proofs.Math.ListN.{set}
use Rattle.std.proofs.lemmas.Bool.{cases_order, ne_eqb}
use Rattle.row_words.specs.declared.shape.Shape.{Shape}
use Rattle.row_words.specs.declared.rows.ItemRow.{ItemRow}
use Rattle.row_words.specs.Layout.{item_word, rows_begin}
use Rattle.row_words.specs.Decode.{head_at, item_at, link_word}
use Rattle.row_words.specs.declared.layout.TheConstants.{UPPER, LENGTHS, ANCHOR_MARK}
use Rattle.meta_trie.specs.Trie.{named_free, used_of, free_of}
use Rattle.meta_trie.specs.Words.{Put, NextSet, Relinked, Unlinked}
use Rattle.meta_trie.proofs.Segments.{same_item}
use Rattle.meta_trie.proofs.Writes.{anchors_same}

-- one word of an item was written
pub next_set : (k : Shape) (ws : List ℕ) (i word next : ℕ) → item_word k i + 1 < length ws → word % UPPER ≡ next → word / UPPER ≡ link_word k ws i / UPPER → NextSet k ws (set ws (item_word k i + 1) word) i next
next_set k ws i word next room low high =
    let w : List ℕ = set ws (item_word k i + 1) word in
    let other = λ (x : ℕ) (ne : x ≢ item_word k i + 1). get_or-set_other ws (item_word k i + 1) x word 0 ne in
    let e1 : get_or (set ws (item_word k i + 1) word) (item_word k i + 1) 0 ≡ word = get_or-set_same ws (item_word k i + 1) word 0 room in
    let e2 : get_or (set ws (item_word k i + 1) word) (item_word k i + 2) 0 ≡ get_or ws (item_word k i + 2) 0 = other (item_word k i + 2) (omega arith) in
    let e3 : get_or (set ws (item_word k i + 1) word) (item_word k i + 3) 0 ≡ get_or ws (item_word k i + 3) 0 = other (item_word k i + 3) (omega arith) in
    let e4 : get_or (set ws (item_word k i + 1) word) (item_word k i + 4) 0 ≡ get_or ws (item_word k i + 4) 0 = other (item_word k i + 4) (omega arith) in
    let e5 : get_or (set ws (item_word k i + 1) word) (item_word k i + 5) 0 ≡ get_or ws (item_word k i + 5) 0 = other (item_word k i + 5) (omega arith) in
    let e6 : get_or (set ws (item_word k i + 1) word) (item_word k i + 6) 0 ≡ get_or ws (item_word k i + 6) 0 = other (item_word k i + 6) (omega arith) in
    let n : get_or (set ws (item_word k i + 1) word) (item_word k i + 1) 0 % UPPER ≡ next = ap (λ (x : ℕ). x % UPPER) e1 ∙ low in
    let len : get_or (set ws (item_word k i + 1) word) (item_word k i + 1) 0 / UPPER % LENGTHS ≡ link_word k ws i / UPPER % LENGTHS = ap (λ (x : ℕ). x / UPPER % LENGTHS) e1 ∙ ap (λ (x : ℕ). x % LENGTHS) high in
    let bit : word / ANCHOR_MARK ≡ link_word k ws i / ANCHOR_MARK = omega (arith, high) in
    let mark : (get_or (set ws (item_word k i + 1) word) (item_word k i + 1) 0 / ANCHOR_MARK % 2 == 1) ≡ (link_word k ws i / ANCHOR_MARK % 2 == 1) = ap (λ (x : ℕ). x / ANCHOR_MARK % 2 == 1) e1 ∙ ap (λ (x : ℕ). x % 2 == 1) bit in
    record { item = cc; others = other }

-- a link behind an item was set
pub relinked_item : (k : Shape) (ws w : List ℕ) (i bucket next : ℕ) → i < k.items → bucket < k.heads → NextSet k ws w i next → Relinked k ws w (i + 1) bucket next
relinked_item k ws w i bucket next lt bl s = record {
  items = λ j l. elim (cases_order j i) [
    | inl same ↦
        let at : i + 1 ≡ j + 1 = omega (arith, same) in
        ap (item_at k w) same ∙ s.item ∙ ap (λ (x : ℕ). record (item_at k ws x) { next = next }) (sym same)
        ∙ ap (λ (t : Bool). record (item_at k ws j) { next = if t then next else (item_at k ws j).next }) (sym (eq-eqb (i + 1) (j + 1) at))
    | inr other ↦
        let ne : i + 1 ≢ j + 1 = elim other [ inl below ↦ λ e. omega (arith, e, below) | inr above ↦ λ e. omega (arith, e, above) ] in
        same_item k w ws j (λ o a b. s.others (item_word k j + o) (omega (arith, ne, a, b)))
        ∙ ap (λ (t : Bool). record (item_at k ws j) { next = if t then next else (item_at k ws j).next }) (sym (ne_eqb (i + 1) (j + 1) ne))
  ];
  hashes = λ j l. s.others (item_word k j) (omega arith);
  head =
      let ne : i + 1 ≢ 0 = omega arith in
      ap (λ (x : ℕ). x % UPPER) (s.others (4 + bucket) (omega arith)) ∙ ap (λ (t : Bool). if t then next else head_at k ws bucket) (sym (ne_eqb (i + 1) 0 ne));
  heads = λ b ne l. ap (λ (x : ℕ). x % UPPER) (s.others (4 + b) (omega arith));
  header = λ x l. s.others x (omega arith);
  rows = λ x l. s.others x (omega arith);
}

-- the head of a bucket was set
pub relinked_head : (k : Shape) (ws : List ℕ) (bucket next : ℕ) → bucket < k.heads → 4 + bucket < length ws → next < UPPER → Relinked k ws (set ws (4 + bucket) next) 0 bucket next
relinked_head k ws bucket next bl room small =
    let other = λ (x : ℕ) (ne : x ≢ 4 + bucket). get_or-set_other ws (4 + bucket) x next 0 ne in
    record {
      items = λ j l.
          let ne : 0 ≢ j + 1 = omega arith in
          same_item k (set ws (4 + bucket) next) ws j (λ o a b. other (item_word k j + o) (omega arith))
          ∙ ap (λ (t : Bool). record (item_at k ws j) { next = if t then next else (item_at k ws j).next }) (sym (ne_eqb 0 (j + 1) ne));
      hashes = λ j l. other (item_word k j) (omega arith);
      head = ap (λ (x : ℕ). x % UPPER) (get_or-set_same ws (4 + bucket) next 0 room) ∙ omega (arith, small);
      heads = λ b ne l. ap (λ (x : ℕ). x % UPPER) (other (4 + b) (omega (arith, ne)));
      header = λ x l. other x (omega arith);
      rows = λ x l. other x (omega arith);
    }

-- an item was taken out of its bucket by two links and two words of the header
module _ (k : Shape) (ws w1 w2 w3 : List ℕ) (i before bucket next free used : ℕ) (lt : i < k.items) (bl : bucket < k.heads) (next_is : next ≡ (item_at k ws i).next) (free_is : named_free k.items i free ≡ free_of ws) (used_is : used + 1 ≡ used_of ws) (ranges : k.items ≤ 4194304)
    (r1 : Relinked k ws w1 before bucket next) (r2 : Relinked k w1 w2 (i + 1) bucket free) (p : Put w2 w3 1 (used ∷ (i + 1) ∷ [])) where
  third : (x : ℕ) → 4 ≤ x → get_or w3 x 0 ≡ get_or w2 x 0
  third x l = p.behind x (omega arith)

  rows_stay : (x : ℕ) → rows_begin k ≤ x → get_or w3 x 0 ≡ get_or ws x 0
  rows_stay x l = third x (omega arith) ∙ r2.rows x l ∙ r1.rows x l

  item_third : (j : ℕ) → item_at k w3 j ≡ item_at k w2 j
  item_third j = same_item k w3 w2 j (λ o a b. third (item_word k j + o) (omega arith))

  head_third : (b : ℕ) → head_at k w3 b ≡ head_at k w2 b
  head_third b = ap (λ (x : ℕ). x % UPPER) (third (4 + b) (omega arith))

  pub unlinked_words : Unlinked k ws w3 i before bucket
  unlinked_words = record {
    gone = ap (λ (r : ItemRow). named_free k.items i r.next) (item_third i ∙ r2.items i lt) ∙ ap (λ (t : Bool). named_free k.items i (if t then free else (item_at k w1 i).next)) (eq-eqb (i + 1) (i + 1) refl) ∙ free_is;
    items = λ j ne l.
        let no : i + 1 ≢ j + 1 = λ e. ne (omega (arith, e)) in
        item_third j ∙ r2.items j l
        ∙ ap (λ (t : Bool). record (item_at k w1 j) { next = if t then free else (item_at k w1 j).next }) (ne_eqb (i + 1) (j + 1) no)
        ∙ r1.items j l
        ∙ ap (λ (n : ℕ). record (item_at k ws j) { next = if before == j + 1 then n else (item_at k ws j).next }) next_is;
    hashes = λ j ne l. third (item_word k j) (omega arith) ∙ r2.hashes j l ∙ r1.hashes j l;
    head =
        let no : i + 1 ≢ 0 = omega arith in
        head_third bucket ∙ r2.head ∙ ap (λ (t : Bool). if t then free else head_at k w1 bucket) (ne_eqb (i + 1) 0 no) ∙ r1.head ∙ ap (λ (n : ℕ). if before == 0 then n else head_at k ws bucket) next_is;
    heads = λ b ne l. head_third b ∙ r2.heads b ne l ∙ r1.heads b ne l;
    anchors = anchors_same k ws w3 rows_stay;
    rest = record { rows = rows_stay; longest = p.before 0 (omega arith) ∙ r2.header 0 (omega arith) ∙ r1.header 0 (omega arith); live = p.behind 3 (omega arith) ∙ r2.header 3 (omega arith) ∙ r1.header 3 (omega arith) };
    used = ap (λ (n : ℕ). n + 1) (p.inside 0 (omega arith)) ∙ used_is;
    free = p.inside 1 (omega arith);
  }
