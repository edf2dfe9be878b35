use Rattle.std.proofs.Common.{◌≡◌, ◌+◌, ◌<◌, ℕ, List, length, take, arith, sym, ap, ◌∙◌, subst, true}
use Rattle.anchor_rules.specs.Anchors.{Anchors, has_leaf}
use Rattle.row_words.specs.Decode.{IsLive}
use Rattle.row_words.specs.declared.layout.TheConstants.{LONGEST_ANCHOR}
use Rattle.meta_trie.proofs.OnlyOne.{stands_only}
use Rattle.meta_trie.proofs.Dropping.{mergeable, shrinks_by}
use Rattle.meta_trie.proofs.removes.remove_counting.Goals as goal

pub leaf-row-requires : goal.leaf-row-requires
leaf-row-requires g c =
    let t = c.requires.table in
    (mergeable _ _ t.0 c.args.leaf t.1.0 t.1.1 t.1.2).beside.live

pub anchor_bytes-bytes-requires : goal.anchor_bytes-bytes-requires
anchor_bytes-bytes-requires g c =
    let t = c.requires.table in
    let m = mergeable _ _ t.0 c.args.leaf t.1.0 t.1.1 t.1.2 in
    subst (λ (a : List ℕ). length a < LONGEST_ANCHOR + 1) (sym (c.leaf-row.ensures.anchor ∙ m.beside.anchor_is)) m.short

pub share_next-front-requires : goal.share_next-front-requires
share_next-front-requires g c =
    let t = c.requires.table in
    let m = mergeable _ _ t.0 c.args.leaf t.1.0 t.1.1 t.1.2 in
    rw (c.leaf-row.ensures.shape, c.leaf-row.ensures.words) (λ r e.
    let same : m.b.left ≡ r = omega (arith, e, c.leaf-row.ensures.previous, m.previous_is) in
    subst (IsLive (g.R.Rows.shape c.args.rows.now) (g.R.Rows.words c.args.rows.now)) same m.before.live)

pub share_next-back-requires : goal.share_next-back-requires
share_next-back-requires g c =
    let t = c.requires.table in
    let m = mergeable _ _ t.0 c.args.leaf t.1.0 t.1.1 t.1.2 in
    rw (c.share_next-front.ensures.shape ∙ c.leaf-row.ensures.shape, c.share_next-front.ensures.words ∙ c.leaf-row.ensures.words) (λ r e. (m.beside.next r (sym c.leaf-row.ensures.next ∙ e)).0)

pub overflow_sub-row : goal.overflow_sub-row
overflow_sub-row g c =
    let t = c.requires.table in
    let m = mergeable _ _ t.0 c.args.leaf t.1.0 t.1.1 t.1.2 in
    omega (arith, c.leaf-row.ensures.previous, m.previous_is)

pub remove_checked-requires-clause-shrinks : goal.remove_checked-requires-clause-shrinks
remove_checked-requires-clause-shrinks g c =
    let t = c.requires.table in
    let shape2 : g.R.Rows.shape c.share_next-front.new.rows ≡ g.R.Rows.shape c.args.rows.now = c.share_next-front.ensures.shape ∙ c.leaf-row.ensures.shape in
    let words2 : g.R.Rows.words c.share_next-front.new.rows ≡ g.R.Rows.words c.args.rows.now = c.share_next-front.ensures.words ∙ c.leaf-row.ensures.words in
    let front = rw (c.leaf-row.ensures.shape, c.leaf-row.ensures.words) at c.share_next-front.ensures.count in
    let back = rw (shape2, words2) at c.share_next-back.ensures.count in
    let anchor = ap (λ (n : ℕ). take n c.anchor_bytes-bytes.result) c.len.ensures ∙ c.anchor_bytes-bytes.ensures ∙ c.leaf-row.ensures.anchor in
    rw (c.share_next-back.ensures.shape ∙ shape2, c.share_next-back.ensures.words ∙ words2) (λ A s.
    let here = subst (λ (B : Anchors). has_leaf B c.args.leaf ≡ true) (stands_only _ _ t.0 A t.1.0 s) t.1.1 in
    let m = mergeable _ _ A c.args.leaf s here t.1.2 in
    (m.b.lo, (m.b.hi, shrinks_by _ _ A c.args.leaf s m _ c.leaf-row.result.previous c.leaf-row.result.next c.share_next-front.result c.share_next-back.result (anchor ∙ m.beside.anchor_is) c.leaf-row.ensures.previous c.leaf-row.ensures.next front back)))

pub returns-clause-removed : goal.returns-clause-removed
returns-clause-removed g c =
    let shape2 : g.R.Rows.shape c.share_next-front.new.rows ≡ g.R.Rows.shape c.args.rows.now = c.share_next-front.ensures.shape ∙ c.leaf-row.ensures.shape in
    let words2 : g.R.Rows.words c.share_next-front.new.rows ≡ g.R.Rows.words c.args.rows.now = c.share_next-front.ensures.words ∙ c.leaf-row.ensures.words in
    rw (c.share_next-back.ensures.shape ∙ shape2, c.share_next-back.ensures.words ∙ words2) at c.remove_checked.ensures.removed

pub returns-clause-stays : goal.returns-clause-stays
returns-clause-stays g c = let t = g.met.R.Rows.stays_trans in t _ _ _ (t _ _ _ (t _ _ _ c.leaf-row.ensures.stays c.share_next-front.ensures.stays) c.share_next-back.ensures.stays) c.remove_checked.ensures.stays
