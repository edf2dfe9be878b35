-- The table of the one empty anchor.
use Rattle.std.proofs.Common.{◌≡◌, ◌≢◌, ℕ, zero, suc, ◌+◌, ◌-◌, ◌/◌, ◌%◌, ◌^◌, ◌<◌, ◌≤◌, inl, inr, List, [], ◌∷◌, get_or, Option, Some, None, sym, ap, ◌∙◌, refl, subst, arith, rules, eq-eqb}
use Rattle.std.specs.Prelude.{length, replicate, Bool, true, false, ◌==◌, if◌then◌else◌}
use Rattle.std.specs.List.{AllByRecursion, range_with_len}
use Rattle.std.proofs.lemmas.List.{get_or-replicate, get_or_past, length-replicate}
use Rattle.std.proofs.lemmas.List.FromFn.{length-range_with_len}
use Rattle.std.proofs.lemmas.Bool.{cases_order, ne_eqb}
use Rattle.std.proofs.Common.{true≢false}
use Rattle.anchor_rules.specs.Anchors.{has_leaf}
use Rattle.anchor_rules.specs.Items.{Item, item}
use Rattle.row_words.specs.declared.shape.Shape.{Shape}
use Rattle.row_words.specs.declared.rows.ItemRow.{ItemRow}
use Rattle.row_words.specs.Layout.{item_word, leaf_word}
use Rattle.row_words.specs.Shape.{IsShape}
use Rattle.row_words.specs.Bytes.{bytes_from}
use Rattle.row_words.specs.Decode.{mark_at, IsLive}
use Rattle.row_words.specs.declared.layout.TheConstants.{PREVIOUS_PART, NEXT_PART, UPPER}
use Rattle.meta_trie.specs.Trie.{Says, bit_of, Among, named_free, free_after, Spare, Unlike, Holds}
use Rattle.meta_trie.specs.Stands.{StandsFor}
use Rattle.meta_trie.specs.Words.{Put, Linked, Bare, with_item}
use Rattle.meta_trie.proofs.Linking.{linked, linked-owner}
use Rattle.meta_trie.proofs.Holding.{holds_same, holds_same-owner}

-- words that are all 0
pub all_zero : (ws : List ℕ) (n : ℕ) → ws ≡ replicate n 0 → (x : ℕ) → get_or ws x 0 ≡ 0
all_zero ws n is x =
    let many : length ws ≡ n = ap length is ∙ length-replicate n 0 in
    elim (cases_order x n) [
      | inl same ↦ get_or_past ws x 0 (omega (arith, same, many))
      | inr other ↦ elim other [ inl below ↦ ap (λ (v : List ℕ). get_or v x 0) is ∙ get_or-replicate n x 0 0 below | inr past ↦ get_or_past ws x 0 (omega (arith, past, many)) ]
    ]

-- the header and the row of leaf 0 were written
module _ (k : Shape) (w0 w1 w2 : List ℕ) (ranges : IsShape k) (z : (x : ℕ) → get_or w0 x 0 ≡ 0) (p1 : Put w0 w1 0 (0 ∷ 0 ∷ 1 ∷ 1 ∷ [])) (p2 : Put w1 w2 (leaf_word k 0) (1 ∷ [])) where
  high : (x : ℕ) → 4 ≤ x → x < leaf_word k 0 → get_or w2 x 0 ≡ 0
  high x l m = p2.before x m ∙ p1.behind x (omega arith) ∙ z x

  rows : (x : ℕ) → leaf_word k 0 < x → get_or w2 x 0 ≡ 0
  rows x l = p2.behind x (omega arith) ∙ p1.behind x (omega arith) ∙ z x

  header : (x : ℕ) → x < 4 → get_or w2 x 0 ≡ get_or (0 ∷ 0 ∷ 1 ∷ 1 ∷ []) x 0
  header x l = p2.before x (omega arith) ∙ ap (λ (y : ℕ). get_or w1 y 0) (omega arith) ∙ p1.inside x l

  pub bare_words : Bare k w2
  bare_words = let some = ranges.items.0 in record {
    ranges = ranges;
    heads = λ b l. ap (λ (w : ℕ). w % UPPER) (high (4 + b) (omega arith) (omega arith));
    links = λ j l. ap (λ (w : ℕ). w % UPPER) (high (item_word k j + 1) (omega arith) (omega arith));
    longest = header 0 (omega arith);
    used = header 1 (omega arith);
    free = header 2 (omega arith);
    live = header 3 (omega arith);
    mark = ap (λ (x : ℕ). get_or w2 x 0) (omega arith) ∙ p2.inside 0 (omega arith);
    marks = λ leaf l. rows (leaf_word k leaf) (omega arith);
    previous = ap (λ (w : ℕ). w % UPPER) (rows (leaf_word k 0 + PREVIOUS_PART) (omega arith));
    next = ap (λ (w : ℕ). w % UPPER) (rows (leaf_word k 0 + NEXT_PART) (omega arith));
  }

-- no place has an owner
abbrev nobody : ℕ → Option (List ℕ)
nobody i = None

in_range : (a n top : ℕ) → a + n ≤ top → AllByRecursion (λ (i : ℕ). (i < top) × (nobody i ≡ None)) (range_with_len a n)
in_range a zero top l = tt
in_range a (suc n) top l = ((omega arith, refl), in_range (a + 1) n top (omega arith))

above : (i a n : ℕ) → i < a → AllByRecursion (λ (j : ℕ). i ≡ j → ⊥) (range_with_len a n)
above i a zero l = tt
above i a (suc n) l = ((λ e. omega (arith, e, l)), above i (a + 1) n (omega arith))

unlike : (a n : ℕ) → Unlike (range_with_len a n)
unlike a zero = tt
unlike a (suc n) = (above a (a + 1) n (omega arith), unlike (a + 1) n)

among : (i a n : ℕ) → a ≤ i → i < a + n → Among i (range_with_len a n)
among i a zero l m = absurd (omega arith)
among i a (suc n) l m = elim (cases_order a i) [
  | inl same ↦ inl same
  | inr other ↦ elim other [ inl below ↦ inr (among i (a + 1) n (omega arith) (omega arith)) | inr past ↦ absurd (omega arith) ]
]

module _ (k : Shape) (ws : List ℕ) (b : Bare k ws) where
  spare_from : (a n : ℕ) → a + n + 1 ≡ k.items → Spare k ws (a + 1) (range_with_len a (suc n))
  spare_from a zero e =
      let end : a + 1 ≡ k.items = omega (arith, e) in
      (refl, ap (named_free k.items a) (b.links a (omega (arith, e))) ∙ ap (λ (t : Bool). if t then 0 else a + 2) (eq-eqb (a + 1) k.items end))
  spare_from a (suc n) e =
      let more : a + 1 ≢ k.items = λ end. omega (arith, e, end) in
      let next : free_after k ws a ≡ a + 1 + 1 = ap (named_free k.items a) (b.links a (omega (arith, e))) ∙ ap (λ (t : Bool). if t then 0 else a + 2) (ne_eqb (a + 1) k.items more) ∙ omega arith in
      (refl, subst (λ (x : ℕ). Spare k ws x (range_with_len (a + 1) (suc n))) (sym next) (spare_from (a + 1) n (omega (arith, e))))

  all_free : (n : ℕ) → n ≡ k.items → 0 < n → Spare k ws 1 (range_with_len 0 n)
  all_free zero e l = absurd (omega arith)
  all_free (suc n) e l = subst (λ (x : ℕ). Spare k ws x (range_with_len 0 (suc n))) (omega arith) (spare_from 0 n (omega (arith, e)))

  -- no prefix has an item
  pub bare : Holds k ws (λ p. None)
  bare = record {
    ranges = b.ranges;
    buckets = λ c. [];
    chained = λ c l. b.heads c l;
    standing = λ c l. tt;
    apart = λ c l. tt;
    complete = λ name it e. absurd (cc);
    owner = nobody;
    owned = λ c l. tt;
    mine = λ i name e. absurd (cc);
    free = range_with_len 0 k.items;
    spare = subst (λ (x : ℕ). Spare k ws x (range_with_len 0 k.items)) (sym b.free) (all_free k.items refl (let some = b.ranges.items.0 in omega arith));
    unowned = in_range 0 k.items k.items (omega arith);
    unlike = unlike 0 k.items;
    whole = λ i l e. among i 0 k.items (omega arith) (omega arith);
    counted = let n = length-range_with_len 0 k.items in omega (arith, n, b.used);
  }

zeros : (xs : List ℕ) (i : ℕ) → AllByRecursion (λ (x : ℕ). x ≡ 0) xs → get_or xs i 0 ≡ 0
zeros [] i a = refl
zeros (x ∷ xs) zero a = a.0
zeros (x ∷ xs) (suc i) a = zeros xs i a.1

pub no_bit : (c : ℕ) → bit_of (0 ∷ 0 ∷ 0 ∷ 0 ∷ []) c ≡ false
no_bit c =
    let z : get_or (0 ∷ 0 ∷ 0 ∷ 0 ∷ []) (c / 64) 0 ≡ 0 = zeros (0 ∷ 0 ∷ 0 ∷ 0 ∷ []) (c / 64) (refl, (refl, (refl, (refl, tt)))) in
    let half : 0 / 2 ^ (c % 64) ≡ 0 = search rules in
    ap (λ (w : ℕ). w / 2 ^ (c % 64) % 2 == 1) z ∙ ap (λ (w : ℕ). w % 2 == 1) half

-- the only item of the one empty anchor
abbrev root : Item
root = record { is_anchor = true; leftmost = 0; rightmost = 0; child = λ c. false }

root_only : (p : List ℕ) → with_item (λ q. None) [] root p ≡ item (([], 0) ∷ []) p
unfolding item
root_only [] = refl
root_only (x ∷ p) = refl

pub started : (k : Shape) (old new : List ℕ) (i : ℕ) (row : ItemRow) → Bare k old → Linked k old new i [] row → row ≡ record { next = 0; len = 0; is_anchor = true; leftmost = 0; rightmost = 0; bits = 0 ∷ 0 ∷ 0 ∷ 0 ∷ [] } → StandsFor k new (([], 0) ∷ [])
started k old new i row b l is =
    let h : Holds k old (λ p. None) = bare k old b in
    let says : Says row root = subst (λ (r : ItemRow). Says r root) (sym is) (record { anchor = refl; first = refl; last = refl; children = λ c m. no_bit c }) in
    let len : row.len ≡ 0 = ap (λ (r : ItemRow). r.len) is in
    let left : row.leftmost ≡ 0 = ap (λ (r : ItemRow). r.leftmost) is in
    let some = b.ranges.leaves.0 in
    let live : IsLive k old 0 = (omega arith, omega (arith, b.mark), omega (arith, b.mark)) in
    let live_left : IsLive k old row.leftmost = subst (IsLive k old) (sym left) live in
    let t = linked k old new (λ p. None) i [] row root h refl l says len live_left refl in
    let here : i ≡ 0 = let taken : 1 ≡ i + 1 = sym b.free ∙ l.taken in omega (arith, taken) in
    let mark : mark_at k new 0 ≡ 1 = l.rest.rows (leaf_word k 0) (omega arith) ∙ b.mark in
    record {
      anchors = record { first = refl; rises = (tt, refl, tt) };
      zero = refl;
      keys = ((omega arith, tt, omega arith), tt);
      chained = (
        (omega arith, omega (arith, mark), omega (arith, mark)),
        ap (λ (n : ℕ). bytes_from new (leaf_word k 0 + 1) (n - 1)) mark,
        ap (λ (w : ℕ). w % UPPER) (l.rest.rows (leaf_word k 0 + PREVIOUS_PART) (omega arith)) ∙ b.previous,
        ap (λ (w : ℕ). w % UPPER) (l.rest.rows (leaf_word k 0 + NEXT_PART) (omega arith)) ∙ b.next,
        tt,
      );
      dead = λ leaf m none. elim leaf as (λ (x : ℕ). has_leaf (([], 0) ∷ []) x ≡ false → mark_at k new x ≡ 0) [
        | zero ↦ λ e. absurd (true≢false e)
        | suc x ↦ λ e. l.rest.rows (leaf_word k (suc x)) (omega arith) ∙ b.marks (suc x) (omega arith)
      ] none;
      trie = holds_same k new _ _ root_only t;
      root = holds_same-owner k new _ _ root_only t 0 ∙ linked-owner k old new (λ p. None) i [] row root h refl l says len live_left refl 0 ∙ ap (λ (n : ℕ). if 0 == n then Some [] else h.owner 0) here;
      longest = l.rest.longest ∙ b.longest;
      used = l.used ∙ ap (λ (n : ℕ). n + 1) b.used;
      live = l.rest.live ∙ b.live;
    }
