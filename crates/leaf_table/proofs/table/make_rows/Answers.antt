use Rattle.std.proofs.Common.{ℕ, List, ap, ◌∙◌}
use Rattle.std.specs.Prelude.{slice_index}
use Rattle.leaf_table.proofs.Zeros.{zeros_read}
use Rattle.leaf_table.proofs.table.make_rows.Goals as goal

pub start_zeroed-requires : goal.start_zeroed-requires
start_zeroed-requires c x = ap (λ (ws : List ℕ). slice_index ws x) c.in_ok-rows.ensures.words ∙ zeros_read _ x
