use Rattle.std.proofs.Common.{◌≡◌, ℕ, take, sym, ap, ◌∙◌, subst, true}
use Rattle.key_bytes.specs.Lengths.{IsKey}
use Rattle.anchor_rules.specs.Anchors.{Anchors, splits}
use Rattle.meta_trie.proofs.OnlyOne.{stands_only}
use Rattle.meta_trie.proofs.adds.add_anchor_words.Goals as goal

pub anchor_bytes-bytes-requires : goal.anchor_bytes-bytes-requires
anchor_bytes-bytes-requires g c = c.requires.key.1

pub add_counting-requires-clause-key : goal.add_counting-requires-clause-key
add_counting-requires-clause-key g c = subst IsKey (sym (ap (λ (n : ℕ). take n c.anchor_bytes-bytes.result) c.len.ensures ∙ c.anchor_bytes-bytes.ensures)) c.requires.key

pub add_counting-requires-clause-table : goal.add_counting-requires-clause-table
add_counting-requires-clause-table g c = (c.requires.table.0, c.requires.table.1.0)

pub add_counting-requires-clause-splits : goal.add_counting-requires-clause-splits
add_counting-requires-clause-splits g c =
    let whole : take c.len.result c.anchor_bytes-bytes.result ≡ c.args.anchor.now = ap (λ (n : ℕ). take n c.anchor_bytes-bytes.result) c.len.ensures ∙ c.anchor_bytes-bytes.ensures in
    rw whole (λ B t. subst (λ (C : Anchors). splits C c.args.left c.args.anchor.now c.args.leaf ≡ true) (stands_only _ _ c.requires.table.0 B c.requires.table.1.0 t) c.requires.table.1.1)

pub returns-clause-ok : goal.returns-clause-ok
returns-clause-ok g c =
    let whole : take c.len.result c.anchor_bytes-bytes.result ≡ c.args.anchor.now = ap (λ (n : ℕ). take n c.anchor_bytes-bytes.result) c.len.ensures ∙ c.anchor_bytes-bytes.ensures in
    rw whole at c.add_counting.ensures.ok

pub returns-clause-room : goal.returns-clause-room
returns-clause-room g c =
    let whole : take c.len.result c.anchor_bytes-bytes.result ≡ c.args.anchor.now = ap (λ (n : ℕ). take n c.anchor_bytes-bytes.result) c.len.ensures ∙ c.anchor_bytes-bytes.ensures in
    rw whole at c.add_counting.ensures.room

pub returns-clause-full : goal.returns-clause-full
returns-clause-full g c =
    let whole : take c.len.result c.anchor_bytes-bytes.result ≡ c.args.anchor.now = ap (λ (n : ℕ). take n c.anchor_bytes-bytes.result) c.len.ensures ∙ c.anchor_bytes-bytes.ensures in
    rw whole at c.add_counting.ensures.full
