use Rattle.std.proofs.Common.{◌≡◌, ◌≢◌, ◌-◌, ℕ, List, [], ◌∷◌, ◌++◌, inl, inr, length, arith, ◌∙◌, ap, sym, subst}
use Rattle.anchor_rules.specs.Items.{Item, item, under, last_leaf}
use Rattle.anchor_rules.proofs.ItemParts.{item_is, some_item}
use Rattle.row_words.specs.declared.shape.Shape.{Shape}
use Rattle.row_words.specs.declared.rows.ChildProbe.TheVariants.{Found, Further}
use Rattle.row_words.specs.Decode.{head_at, item_at, ChildProbed}
use Rattle.meta_trie.specs.Trie.{bucket_of}
use Rattle.meta_trie.specs.Places.{StandsAt}
use Rattle.meta_trie.proofs.Walks.{walk_start, walk_used, walk_more, walk_here, walk_last, walk_goes, walk_room, walk_counts, bucket_short}
use Rattle.meta_trie.proofs.children.last_of_child.Goals as goal

pub probe_child-requires : goal.probe_child-requires
probe_child-requires g c =
    let inv = c.loop-rightmost.invariant in
    let w = inv.walk c.requires.table.0 c.requires.table.1 in
    rw (inv.shape, inv.words) (walk_used _ _ _ _ _ _ _ _ _ w.1 inv.some)

pub returns-in-Found-clause-leaf : goal.returns-in-Found-clause-leaf
returns-in-Found-clause-leaf g c = λ A s.
    let inv = c.loop-rightmost.invariant in
    let k = g.R.Rows.shape c.args.rows.now in
    let ws : List ℕ = g.R.Rows.words c.args.rows.now in
    let name : List ℕ = c.args.prefix.now ++ c.args.byte ∷ [] in
    let w = inv.walk A s in
    let shape = inv.shape in
    let words = inv.words in
    let known = some_item A name (c.requires.child A s) in
    let p = subst (λ (z : Shape × List ℕ). ChildProbed z.0 z.1 (c.loop-rightmost.link - 1) name c.args.hash (Found c.in-Found.rightmost)) (λ i. (shape i, words i)) c.in-Found.ensures.value in
    let here : StandsAt k ws (item A) name (c.loop-rightmost.link - 1) = elim p.1 [
      | inl last ↦ walk_last k ws (item A) _ name _ _ _ _ w.1 inv.some last known.0 known.1
      | inr of ↦ walk_here k ws (item A) _ name _ _ _ _ w.1 inv.some _ of
    ] in
    p.0 ∙ (here.2.last ∙ (item_is A name here.0 here.1).last)

pub returns-in-Found-clause-cost : goal.returns-in-Found-clause-cost
returns-in-Found-clause-cost g c = λ A s most fits.
    let inv = c.loop-rightmost.invariant in
    let w = inv.walk A s in
    let counts = walk_counts _ _ (item A) _ _ _ _ _ _ w.1 inv.some in
    let short = bucket_short _ _ A s (c.args.prefix.now ++ c.args.byte ∷ []) most fits in
    omega (arith, counts, short, c.probe_child.ensures.steps)

pub loop-rightmost-init : goal.loop-rightmost-init
loop-rightmost-init g c =
    let name : List ℕ = c.args.prefix.now ++ c.args.byte ∷ [] in
    let link : c.head-link.result ≡ head_at (g.R.Rows.shape c.args.rows.now) (g.R.Rows.words c.args.rows.now) (bucket_of (g.R.Rows.shape c.args.rows.now) name) = cc in
    let A = c.requires.table.0 in
    let s = c.requires.table.1 in
    let known = some_item A name (c.requires.child A s) in
    let goes = walk_goes _ _ (item A) _ name _ _ _ _ (walk_start (g.R.Rows.shape c.args.rows.now) (g.R.Rows.words c.args.rows.now) (item A) s.trie name 0) known.0 known.1 in
    record {
      words = c.head-link.ensures.words;
      counted = omega (arith, c.head-link.ensures.read);
      shape = c.head-link.ensures.shape;
      stays = c.head-link.ensures.stays;
      some = λ none. goes (sym link ∙ none);
      walk = λ A s. (0, rw link (walk_start _ _ (item A) s.trie name _));
    }

pub loop-rightmost-smaller : goal.loop-rightmost-smaller
loop-rightmost-smaller g c =
    let inv = c.loop-rightmost.invariant in
    let s = c.requires.table.1 in
    let w = inv.walk c.requires.table.0 s in
    let room = walk_room _ _ _ s.trie _ _ _ _ _ w.1 inv.some in
    omega (arith, room, c.probe_child.ensures.steps)

pub loop-rightmost-preserved : goal.loop-rightmost-preserved
loop-rightmost-preserved g c =
    let inv = c.loop-rightmost.invariant in
    let name : List ℕ = c.args.prefix.now ++ c.args.byte ∷ [] in
    let shape = inv.shape in
    let words = inv.words in
    let p = subst (λ (z : Shape × List ℕ). ChildProbed z.0 z.1 (c.loop-rightmost.link - 1) name c.args.hash (Further c.in-Further.next)) (λ i. (shape i, words i)) c.in-Further.ensures.value in
    record {
      words = c.probe_child.ensures.words ∙ inv.words;
      counted = omega (arith, c.probe_child.ensures.read, c.probe_child.ensures.steps, inv.counted);
      shape = c.probe_child.ensures.shape ∙ inv.shape;
      stays = g.met.R.Rows.stays_trans _ _ _ inv.stays c.probe_child.ensures.stays;
      some = p.1;
      walk = λ A s. let w = inv.walk A s in (c.loop-rightmost.link, rw (p.0, c.probe_child.ensures.steps) (walk_more _ _ (item A) _ _ _ _ _ _ w.1 inv.some (λ of. p.2 (rw c.requires.hash of))));
    }
