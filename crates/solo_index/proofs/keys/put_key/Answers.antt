use Rattle.std.proofs.Common.{rules, ◌≡◌, ◌∙◌, is_some, not, sym, ap, subst, List, ℕ}
use Rattle.anchor_rules.specs.Anchors.{Anchors, target}
use Rattle.map_model.specs.Maps.{Pairs, find, with}
use Rattle.leaf_table.specs.Table.{Table}
use Rattle.solo_index.specs.Tending.{TendsLarge, leaf_of}
use Rattle.solo_index.proofs.Opening.{opens_map, not_some}
use Rattle.solo_index.proofs.keys.put_key.Goals as goal

pub returns-clause-ok : goal.returns-clause-ok
returns-clause-ok c =
    let key = c.args.key.now in
    let done = c.in_ok-new.ensures.ok in
    let anchors = ap (λ (t : Table). t.anchors) done in
    let leaf : c.in_ok-place.place.leaf ≡ leaf_of c.set.new.self key = c.in_ok-place.ensures.place.leaf ∙ ap (λ (A : Anchors). target A key) (sym anchors) in
    record {
      room = search rules;
      opened = c.open_leaf.new.table;
      opens = c.in_ok-place.ensures.opens;
      was_new = c.in_ok-new.ensures.new ∙ (ap (λ (m : Pairs (List ℕ)). not (is_some (find m key))) (opens_map c.args.table.now c.open_leaf.new.table key c.in_ok-place.ensures.opens) ∙ not_some (find c.args.table.now.map key));
      written = c.set.new.self;
      writes = record { shape = ap (λ (t : Table). t.shape) done; anchors = anchors; now = ap (λ (t : Table). t.map) done ∙ ap (λ (m : Pairs (List ℕ)). with m key c.args.value.now) (opens_map c.args.table.now c.open_leaf.new.table key c.in_ok-place.ensures.opens) };
      tends = subst (λ (i : ℕ). TendsLarge c.set.new.self c.tend_large-tended.new.table i c.tend_large-tended.result) leaf c.tend_large-tended.ensures;
    }
