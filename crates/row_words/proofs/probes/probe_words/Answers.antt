use Rattle.row_words.proofs.probes.probe_words.Goals as goal

pub returns-clause-stays : goal.returns-clause-stays
returns-clause-stays g c =
    let t = g.met.W.LeafParts.stays_trans in
    t _ _ _ (t _ _ _ c.item_head.ensures.stays c.anchor_begins.ensures.stays) c.item_bits.ensures.stays
