use Rattle.std.proofs.Common.{◌≡◌, ◌+◌, ◌-◌, ℕ, List, arith, ap, ◌∙◌}
use Rattle.key_bytes.specs.Common.{lcp}
use Rattle.row_words.specs.Decode.{anchor_at}
use Rattle.meta_trie.proofs.adds.share_next.Goals as goal

pub leaf-row-requires : goal.leaf-row-requires
leaf-row-requires g c = c.requires (c.args.next - 1) (let some = c.if-next-eq0.false in omega (arith, some))

pub returns-clause-count : goal.returns-clause-count
returns-clause-count g c =
    let some = c.if-next-eq0.false in
    record {
      last = λ e. absurd (some e);
      more = λ r e.
          let at : c.args.next - 1 ≡ r = omega (arith, e) in
          c.share_count.ensures ∙ ap (λ (a : List ℕ). lcp a c.args.bytes.now + 1) (c.leaf-row.ensures.anchor ∙ ap (anchor_at (g.R.Rows.shape c.args.rows.now) (g.R.Rows.words c.args.rows.now)) at);
    }
