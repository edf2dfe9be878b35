use Rattle.std.proofs.Common.{◌≡◌, ◌+◌, ℕ, List, arith, sym, ap, ◌∙◌}
use Rattle.key_bytes.specs.Common.{lcp}
use Rattle.meta_trie.specs.Grows.{back_count}
use Rattle.meta_trie.proofs.Adding.{neighbour}
use Rattle.meta_trie.proofs.Growing.{counts_shared}
use Rattle.meta_trie.proofs.Laying.{splittable, new_count-at, back_by, shared_fits}
use Rattle.meta_trie.proofs.adds.add_counting.Goals as goal

pub leaf-row-requires : goal.leaf-row-requires
leaf-row-requires g c =
    let A = c.requires.table.0 in
    let s = c.requires.table.1 in
    let p = splittable _ _ A c.args.left c.args.anchor.now c.args.leaf s (c.requires.splits A s) c.requires.leaf in
    p.beside.live

pub share_next-back-requires : goal.share_next-back-requires
share_next-back-requires g c =
    let A = c.requires.table.0 in
    let s = c.requires.table.1 in
    let p = splittable _ _ A c.args.left c.args.anchor.now c.args.leaf s (c.requires.splits A s) c.requires.leaf in
    rw (c.leaf-row.ensures.shape, c.leaf-row.ensures.words) (λ r e. (p.beside.next r (sym c.leaf-row.ensures.next ∙ e)).0)

pub overflow_sub-needed : goal.overflow_sub-needed
overflow_sub-needed g c =
    let A = c.requires.table.0 in
    let s = c.requires.table.1 in
    let p = splittable _ _ A c.args.left c.args.anchor.now c.args.leaf s (c.requires.splits A s) c.requires.leaf in
    let beside = neighbour _ _ A c.args.left p.cut.lo p.cut.hi s p.cut.at in
    let front : c.share_count-front.result ≡ lcp p.cut.lo c.args.anchor.now + 1 = c.share_count-front.ensures ∙ ap (λ (x : List ℕ). lcp x c.args.anchor.now + 1) (c.leaf-row.ensures.anchor ∙ beside.anchor_is) in
    let back : c.share_next-back.result ≡ back_count c.args.anchor.now p.cut.hi = back_by _ _ c.args.left p.cut.lo p.cut.hi c.args.anchor.now c.share_next-back.result beside (rw (c.leaf-row.ensures.shape, c.leaf-row.ensures.words, c.leaf-row.ensures.next) at c.share_next-back.ensures.count) in
    let count = counts_shared p.cut.lo c.args.anchor.now p.cut.hi in
    let few = shared_fits p.cut.lo c.args.anchor.now p.cut.hi in
    let need = new_count-at A c.args.left p.cut.lo p.cut.hi c.args.anchor.now p.cut.at in
    omega (arith, c.max.ensures, front, back, count, few)

pub returns-then-needed-free-clause-full : goal.returns-then-needed-free-clause-full
returns-then-needed-free-clause-full g c = λ A s.
    let p = splittable _ _ A c.args.left c.args.anchor.now c.args.leaf s (c.requires.splits A s) c.requires.leaf in
    let beside = neighbour _ _ A c.args.left p.cut.lo p.cut.hi s p.cut.at in
    let front : c.share_count-front.result ≡ lcp p.cut.lo c.args.anchor.now + 1 = c.share_count-front.ensures ∙ ap (λ (x : List ℕ). lcp x c.args.anchor.now + 1) (c.leaf-row.ensures.anchor ∙ beside.anchor_is) in
    let back : c.share_next-back.result ≡ back_count c.args.anchor.now p.cut.hi = back_by _ _ c.args.left p.cut.lo p.cut.hi c.args.anchor.now c.share_next-back.result beside (rw (c.leaf-row.ensures.shape, c.leaf-row.ensures.words, c.leaf-row.ensures.next) at c.share_next-back.ensures.count) in
    let count = counts_shared p.cut.lo c.args.anchor.now p.cut.hi in
    let few = shared_fits p.cut.lo c.args.anchor.now p.cut.hi in
    let need = new_count-at A c.args.left p.cut.lo p.cut.hi c.args.anchor.now p.cut.at in
    let shape2 : g.R.Rows.shape c.share_next-back.new.rows ≡ g.R.Rows.shape c.args.rows.now = c.share_next-back.ensures.shape ∙ c.leaf-row.ensures.shape in
    let words2 : g.R.Rows.words c.share_next-back.new.rows ≡ g.R.Rows.words c.args.rows.now = c.share_next-back.ensures.words ∙ c.leaf-row.ensures.words in
    let free = rw (shape2, words2) at c.free_count-free.ensures.count in
    (omega (arith, need, count, few, c.max.ensures, front, back), omega (arith, free A s), c.if-needed-free.true)

pub add_checked-requires-clause-room : goal.add_checked-requires-clause-room
add_checked-requires-clause-room g c =
    let shape : g.R.Rows.shape c.free_count-free.new.rows ≡ g.R.Rows.shape c.args.rows.now = c.free_count-free.ensures.shape ∙ c.share_next-back.ensures.shape ∙ c.leaf-row.ensures.shape in
    let words : g.R.Rows.words c.free_count-free.new.rows ≡ g.R.Rows.words c.args.rows.now = c.free_count-free.ensures.words ∙ c.share_next-back.ensures.words ∙ c.leaf-row.ensures.words in
    let shape2 : g.R.Rows.shape c.share_next-back.new.rows ≡ g.R.Rows.shape c.args.rows.now = c.share_next-back.ensures.shape ∙ c.leaf-row.ensures.shape in
    let words2 : g.R.Rows.words c.share_next-back.new.rows ≡ g.R.Rows.words c.args.rows.now = c.share_next-back.ensures.words ∙ c.leaf-row.ensures.words in
    let free = rw (shape2, words2) at c.free_count-free.ensures.count in
    rw (shape, words) (λ A s.
    let p = splittable _ _ A c.args.left c.args.anchor.now c.args.leaf s (c.requires.splits A s) c.requires.leaf in
    let beside = neighbour _ _ A c.args.left p.cut.lo p.cut.hi s p.cut.at in
    let front : c.share_count-front.result ≡ lcp p.cut.lo c.args.anchor.now + 1 = c.share_count-front.ensures ∙ ap (λ (x : List ℕ). lcp x c.args.anchor.now + 1) (c.leaf-row.ensures.anchor ∙ beside.anchor_is) in
    let back : c.share_next-back.result ≡ back_count c.args.anchor.now p.cut.hi = back_by _ _ c.args.left p.cut.lo p.cut.hi c.args.anchor.now c.share_next-back.result beside (rw (c.leaf-row.ensures.shape, c.leaf-row.ensures.words, c.leaf-row.ensures.next) at c.share_next-back.ensures.count) in
    let count = counts_shared p.cut.lo c.args.anchor.now p.cut.hi in
    let few = shared_fits p.cut.lo c.args.anchor.now p.cut.hi in
    let need = new_count-at A c.args.left p.cut.lo p.cut.hi c.args.anchor.now p.cut.at in
    omega (arith, need, count, few, c.max.ensures, front, back, free A s, c.if-needed-free.false))

pub add_checked-requires-clause-counts : goal.add_checked-requires-clause-counts
add_checked-requires-clause-counts g c =
    let shape : g.R.Rows.shape c.free_count-free.new.rows ≡ g.R.Rows.shape c.args.rows.now = c.free_count-free.ensures.shape ∙ c.share_next-back.ensures.shape ∙ c.leaf-row.ensures.shape in
    let words : g.R.Rows.words c.free_count-free.new.rows ≡ g.R.Rows.words c.args.rows.now = c.free_count-free.ensures.words ∙ c.share_next-back.ensures.words ∙ c.leaf-row.ensures.words in
    rw (shape, words) (λ A lo hi s at.
    let beside = neighbour _ _ A c.args.left lo hi s at in
    let front : c.share_count-front.result ≡ lcp lo c.args.anchor.now + 1 = c.share_count-front.ensures ∙ ap (λ (x : List ℕ). lcp x c.args.anchor.now + 1) (c.leaf-row.ensures.anchor ∙ beside.anchor_is) in
    let back : c.share_next-back.result ≡ back_count c.args.anchor.now hi = back_by _ _ c.args.left lo hi c.args.anchor.now c.share_next-back.result beside (rw (c.leaf-row.ensures.shape, c.leaf-row.ensures.words, c.leaf-row.ensures.next) at c.share_next-back.ensures.count) in
    (front, back))

pub returns-clause-ok : goal.returns-clause-ok
returns-clause-ok g c =
    let shape : g.R.Rows.shape c.free_count-free.new.rows ≡ g.R.Rows.shape c.args.rows.now = c.free_count-free.ensures.shape ∙ c.share_next-back.ensures.shape ∙ c.leaf-row.ensures.shape in
    let words : g.R.Rows.words c.free_count-free.new.rows ≡ g.R.Rows.words c.args.rows.now = c.free_count-free.ensures.words ∙ c.share_next-back.ensures.words ∙ c.leaf-row.ensures.words in
    rw (shape, words) at c.add_checked.ensures.added

pub returns-clause-room : goal.returns-clause-room
returns-clause-room g c = λ A s.
    let p = splittable _ _ A c.args.left c.args.anchor.now c.args.leaf s (c.requires.splits A s) c.requires.leaf in
    let beside = neighbour _ _ A c.args.left p.cut.lo p.cut.hi s p.cut.at in
    let front : c.share_count-front.result ≡ lcp p.cut.lo c.args.anchor.now + 1 = c.share_count-front.ensures ∙ ap (λ (x : List ℕ). lcp x c.args.anchor.now + 1) (c.leaf-row.ensures.anchor ∙ beside.anchor_is) in
    let back : c.share_next-back.result ≡ back_count c.args.anchor.now p.cut.hi = back_by _ _ c.args.left p.cut.lo p.cut.hi c.args.anchor.now c.share_next-back.result beside (rw (c.leaf-row.ensures.shape, c.leaf-row.ensures.words, c.leaf-row.ensures.next) at c.share_next-back.ensures.count) in
    let count = counts_shared p.cut.lo c.args.anchor.now p.cut.hi in
    let few = shared_fits p.cut.lo c.args.anchor.now p.cut.hi in
    let need = new_count-at A c.args.left p.cut.lo p.cut.hi c.args.anchor.now p.cut.at in
    let shape2 : g.R.Rows.shape c.share_next-back.new.rows ≡ g.R.Rows.shape c.args.rows.now = c.share_next-back.ensures.shape ∙ c.leaf-row.ensures.shape in
    let words2 : g.R.Rows.words c.share_next-back.new.rows ≡ g.R.Rows.words c.args.rows.now = c.share_next-back.ensures.words ∙ c.leaf-row.ensures.words in
    let free = rw (shape2, words2) at c.free_count-free.ensures.count in
    omega (arith, need, count, few, c.max.ensures, front, back, free A s, c.if-needed-free.false)

pub returns-clause-stays : goal.returns-clause-stays
returns-clause-stays g c = let t = g.met.R.Rows.stays_trans in t _ _ _ (t _ _ _ (t _ _ _ c.leaf-row.ensures.stays c.share_next-back.ensures.stays) c.free_count-free.ensures.stays) c.add_checked.ensures.stays
