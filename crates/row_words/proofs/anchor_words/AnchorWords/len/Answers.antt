use Rattle.std.proofs.Common.{sym, ap, ◌∙◌, length}
use Rattle.row_words.proofs.Packed.{length-bytes}
use Rattle.row_words.proofs.anchor_words.AnchorWords.len.Goals as goal

pub returns : goal.returns
returns c = sym (length-bytes c.self.inside.words 0 c.self.inside.len) ∙ ap length c.self.view_is
