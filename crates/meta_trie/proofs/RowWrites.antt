-- The row of a leaf, and the list of the rows.
use Rattle.std.proofs.Common.{◌≡◌, ◌≢◌, ℕ, ◌+◌, ◌-◌, ◌*◌, ◌/◌, ◌%◌, ◌^◌, ◌<◌, ◌≤◌, inl, inr, List, [], ◌∷◌, length, get_or, take, sym, ap, ◌∙◌, refl, subst, arith, Option, Some, None}
use Rattle.std.specs.List.{AllByRecursion}
use Rattle.std.proofs.lemmas.Bool.{cases_order}
use Rattle.anchor_rules.specs.Items.{Item}
use Rattle.row_words.specs.declared.shape.Shape.{Shape}
use Rattle.row_words.specs.declared.rows.ItemRow.{ItemRow}
use Rattle.row_words.specs.Layout.{item_word, leaf_word, rows_begin}
use Rattle.row_words.specs.Bytes.{bytes_from}
use Rattle.row_words.specs.Decode.{head_at, item_at, mark_at, anchor_at, IsLive}
use Rattle.row_words.proofs.Packed.{bytes_same, bytes_is}
use Rattle.row_words.specs.declared.layout.TheConstants.{LONGEST_ANCHOR, ANCHOR_WORDS, LEAF_WORDS, PREVIOUS_PART, NEXT_PART, UPPER}
use Rattle.meta_trie.specs.Trie.{Says, Entry, Chain, Stands, Spare, Holds, used_of, free_of}
use Rattle.meta_trie.specs.Words.{Put, RowPut, RowWords}
use Rattle.meta_trie.proofs.Owners.{chain_kept, spare_kept}

pub row_put : (k : Shape) (old new values : List ℕ) (leaf : ℕ) (anchor : List ℕ) (previous next : ℕ) → leaf < k.leaves → length anchor < LONGEST_ANCHOR + 1 → length values ≡ LEAF_WORDS → previous < UPPER → next < UPPER → RowWords values anchor previous next → Put old new (leaf_word k leaf) values → RowPut k old new leaf anchor previous next
row_put k old new values leaf anchor previous next lt short many pl nl r p =
    let mark : mark_at k new leaf ≡ length anchor + 1 = ap (λ (x : ℕ). get_or new x 0) (omega arith) ∙ p.inside 0 (omega (arith, many)) ∙ r.mark in
    record {
      live = (lt, omega (arith, mark), omega (arith, mark, short));
      anchor_is =
          let n : mark_at k new leaf - 1 ≡ length anchor = omega (arith, mark) in
          ap (bytes_from new (leaf_word k leaf + 1)) n
          ∙ bytes_is new (leaf_word k leaf + 1) anchor (λ j l.
          let i : j / 8 < ANCHOR_WORDS = omega (arith, l, short) in
          let at : leaf_word k leaf + 1 + j / 8 ≡ leaf_word k leaf + (j / 8 + 1) = omega arith in
          let same : 8 * (j / 8) + j % 8 ≡ j = omega arith in
          ap (λ (x : ℕ). get_or new x 0 / 2 ^ (8 * (j % 8)) % 256) at
          ∙ ap (λ (w : ℕ). w / 2 ^ (8 * (j % 8)) % 256) (p.inside (j / 8 + 1) (omega (arith, many, i)))
          ∙ r.bytes (j / 8) i (j % 8) (omega arith)
          ∙ ap (λ (x : ℕ). get_or anchor x 0) same);
      previous_is = ap (λ (w : ℕ). w % UPPER) (p.inside PREVIOUS_PART (omega (arith, many)) ∙ r.previous_is) ∙ omega (arith, pl);
      next_is = ap (λ (w : ℕ). w % UPPER) (p.inside NEXT_PART (omega (arith, many)) ∙ r.next_is) ∙ omega (arith, nl);
      before = p.before;
      behind = λ x l. p.behind x (omega (arith, l, many));
    }

-- the heads, the items and their two header words stay, and so do the anchors of the live leaves that are kept
pub record SameTrie (k : Shape) (old new : List ℕ) (Keeps : ℕ → Type 0) : Type 0 where
  pub low : (x : ℕ) → 0 < x → x < 3 → get_or new x 0 ≡ get_or old x 0
  pub items : (x : ℕ) → 4 ≤ x → x < rows_begin k → get_or new x 0 ≡ get_or old x 0
  pub anchors : (leaf : ℕ) → Keeps leaf → IsLive k old leaf → (mark_at k new leaf ≡ mark_at k old leaf) × (anchor_at k new leaf ≡ anchor_at k old leaf)

module _ (k : Shape) (old new : List ℕ) (Keeps : ℕ → Type 0) (s : SameTrie k old new Keeps) where
  item_same : (j : ℕ) → j < k.items → item_at k new j ≡ item_at k old j
  item_same j l =
      let a : get_or new (item_word k j + 1) 0 ≡ get_or old (item_word k j + 1) 0 = s.items (item_word k j + 1) (omega arith) (omega arith) in
      let b : get_or new (item_word k j + 2) 0 ≡ get_or old (item_word k j + 2) 0 = s.items (item_word k j + 2) (omega arith) (omega arith) in
      let c : get_or new (item_word k j + 3) 0 ≡ get_or old (item_word k j + 3) 0 = s.items (item_word k j + 3) (omega arith) (omega arith) in
      let d : get_or new (item_word k j + 4) 0 ≡ get_or old (item_word k j + 4) 0 = s.items (item_word k j + 4) (omega arith) (omega arith) in
      let e : get_or new (item_word k j + 5) 0 ≡ get_or old (item_word k j + 5) 0 = s.items (item_word k j + 5) (omega arith) (omega arith) in
      let f : get_or new (item_word k j + 6) 0 ≡ get_or old (item_word k j + 6) 0 = s.items (item_word k j + 6) (omega arith) (omega arith) in
      cc

  head_same : (b : ℕ) → b < k.heads → head_at k new b ≡ head_at k old b
  head_same b l = ap (λ (w : ℕ). w % UPPER) (s.items (4 + b) (omega arith) (omega arith))

  stands_kept : (known : List ℕ → Option Item) → ((p : List ℕ) (it : Item) → known p ≡ Some it → Keeps it.leftmost) → (b : ℕ) (es : List Entry) → AllByRecursion (Stands k old known b) es → AllByRecursion (Stands k new known b) es
  stands_kept known keeps b [] all = tt
  stands_kept known keeps b (e ∷ es) all =
      let st = all.0 in
      let item = item_same e.at st.in_range in
      let left : (item_at k new e.at).leftmost ≡ (item_at k old e.at).leftmost = ap (λ (r : ItemRow). r.leftmost) item in
      let kept : Keeps (item_at k old e.at).leftmost = subst Keeps (sym st.said.2.first) (keeps e.name st.said.0 st.said.1) in
      let same = s.anchors _ kept st.live in
      let mark = same.0 in (
        record {
          in_range = st.in_range;
          here = st.here;
          hash = s.items (item_word k e.at) (omega arith) (omega (arith, st.in_range)) ∙ st.hash;
          len = ap (λ (r : ItemRow). r.len) item ∙ st.len;
          live = subst (IsLive k new) (sym left) (st.live.0, omega (arith, mark, st.live.1), omega (arith, mark, st.live.2));
          named = ap (λ (leaf : ℕ). take (length e.name) (anchor_at k new leaf)) left ∙ ap (take (length e.name)) same.1 ∙ st.named;
          said = (st.said.0, st.said.1, subst (λ (r : ItemRow). Says r st.said.0) (sym item) st.said.2);
        },
        stands_kept known keeps b es all.1,
      )

  nexts : (known : List ℕ → Option Item) (b : ℕ) (es : List Entry) → AllByRecursion (Stands k old known b) es → AllByRecursion (λ (e : Entry). (item_at k new e.at).next ≡ (item_at k old e.at).next) es
  nexts known b [] all = tt
  nexts known b (e ∷ es) all = (ap (λ (r : ItemRow). r.next) (item_same e.at all.0.in_range), nexts known b es all.1)

  free_nexts : (owner : ℕ → Option (List ℕ)) (js : List ℕ) → AllByRecursion (λ (j : ℕ). (j < k.items) × (owner j ≡ None)) js → AllByRecursion (λ (j : ℕ). (item_at k new j).next ≡ (item_at k old j).next) js
  free_nexts owner [] all = tt
  free_nexts owner (j ∷ js) all = (ap (λ (r : ItemRow). r.next) (item_same j all.0.0), free_nexts owner js all.1)

  pub trie_kept : (known : List ℕ → Option Item) → ((p : List ℕ) (it : Item) → known p ≡ Some it → Keeps it.leftmost) → Holds k old known → Holds k new known
  trie_kept known keeps h =
      let used : used_of new ≡ used_of old = s.low 1 (omega arith) (omega arith) in
      let free : free_of new ≡ free_of old = s.low 2 (omega arith) (omega arith) in
      record {
        ranges = h.ranges;
        buckets = h.buckets;
        chained = λ b l. subst (λ (n : ℕ). Chain k new n (h.buckets b)) (sym (head_same b l)) (chain_kept k old new (h.buckets b) _ (nexts known b (h.buckets b) (h.standing b l)) (h.chained b l));
        standing = λ b l. stands_kept known keeps b (h.buckets b) (h.standing b l);
        apart = h.apart;
        complete = h.complete;
        owner = h.owner;
        owned = h.owned;
        mine = h.mine;
        free = h.free;
        spare = subst (λ (n : ℕ). Spare k new n h.free) (sym free) (spare_kept k old new h.free _ (free_nexts h.owner h.free h.unowned) h.spare);
        unowned = h.unowned;
        unlike = h.unlike;
        whole = h.whole;
        counted = omega (arith, h.counted, used);
      }

  pub trie_kept-owner : (known : List ℕ → Option Item) (keeps : (p : List ℕ) (it : Item) → known p ≡ Some it → Keeps it.leftmost) (h : Holds k old known) (i : ℕ) → (trie_kept known keeps h).owner i ≡ h.owner i
  unfolding trie_kept
  trie_kept-owner known keeps h i = refl

-- the words of another leaf's row
pub other_row : (k : Shape) (old new : List ℕ) (leaf other : ℕ) → other ≢ leaf → ((x : ℕ) → x < leaf_word k leaf → get_or new x 0 ≡ get_or old x 0) → ((x : ℕ) → leaf_word k leaf + LEAF_WORDS ≤ x → get_or new x 0 ≡ get_or old x 0) → (o : ℕ) → o < LEAF_WORDS → get_or new (leaf_word k other + o) 0 ≡ get_or old (leaf_word k other + o) 0
other_row k old new leaf other ne before behind o l = elim (cases_order other leaf) [
  | inl e ↦ absurd (ne e)
  | inr r ↦ elim r [ inl below ↦ before (leaf_word k other + o) (omega (arith, below, l)) | inr above ↦ behind (leaf_word k other + o) (omega (arith, above)) ]
]

-- where the mark and the words of the bytes stay, the anchor does
pub anchor_same : (k : Shape) (old new : List ℕ) (leaf : ℕ) → mark_at k old leaf ≤ LONGEST_ANCHOR + 1 → ((o : ℕ) → o < PREVIOUS_PART → get_or new (leaf_word k leaf + o) 0 ≡ get_or old (leaf_word k leaf + o) 0) → (mark_at k new leaf ≡ mark_at k old leaf) × (anchor_at k new leaf ≡ anchor_at k old leaf)
anchor_same k old new leaf most same =
    let first : leaf_word k leaf + 0 ≡ leaf_word k leaf = omega arith in
    let m : mark_at k new leaf ≡ mark_at k old leaf = ap (λ (x : ℕ). get_or new x 0) (sym first) ∙ same 0 (omega arith) ∙ ap (λ (x : ℕ). get_or old x 0) first in (
      m,
      ap (λ (n : ℕ). bytes_from new (leaf_word k leaf + 1) (n - 1)) m
          ∙ bytes_same new old (leaf_word k leaf + 1) (leaf_word k leaf + 1) (mark_at k old leaf - 1)
          (λ j lt.
          let at : leaf_word k leaf + 1 + j / 8 ≡ leaf_word k leaf + (j / 8 + 1) = omega arith in
          ap (λ (w : ℕ). w / 2 ^ (8 * (j % 8)) % 256) (ap (λ (x : ℕ). get_or new x 0) at ∙ same (j / 8 + 1) (omega (arith, lt, most)) ∙ ap (λ (x : ℕ). get_or old x 0) (sym at))),
    )

-- a row was written that wasn't live
pub row_unused : (k : Shape) (old new : List ℕ) (leaf : ℕ) (anchor : List ℕ) (previous next : ℕ) → RowPut k old new leaf anchor previous next → mark_at k old leaf ≡ 0 → SameTrie k old new (λ l. Unit {0})
row_unused k old new leaf anchor previous next r dead = record {
  low = λ x a b. r.before x (omega arith);
  items = λ x a b. r.before x (omega arith);
  anchors = λ other u live.
      let ne : other ≢ leaf = λ e. let zero : mark_at k old other ≡ 0 = ap (mark_at k old) e ∙ dead in omega (arith, zero, live.1) in
      anchor_same k old new other live.2 (λ o l. other_row k old new leaf other ne r.before r.behind o (omega (arith, l)));
}

-- a link between two rows was set
pub link_set : (k : Shape) (old new : List ℕ) (leaf o : ℕ) → PREVIOUS_PART ≤ o → o < LEAF_WORDS → ((x : ℕ) → x ≢ leaf_word k leaf + o → get_or new x 0 ≡ get_or old x 0) → SameTrie k old new (λ l. Unit {0})
link_set k old new leaf o l m others = record {
  low = λ x a b. others x (omega arith);
  items = λ x a b. others x (omega arith);
  anchors = λ other u live. anchor_same k old new other live.2 (λ q n. others (leaf_word k other + q) (omega (arith, l, m, n)));
}
