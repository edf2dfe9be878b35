use Rattle.std.proofs.Common.{◌≡◌, ◌*◌, ◌/◌, ◌%◌, ◌^◌, ℕ, length, get_or, arith, sym, ap, ◌∙◌, zero-add}
use Rattle.std.proofs.lemmas.Nat.{and_mask}
use Rattle.row_words.proofs.Packed.{length-bytes, bytes_get}
use Rattle.row_words.proofs.anchor_words.AnchorWords.byte.Goals as goal

pub bounds-self-inside-i : goal.bounds-self-inside-i
bounds-self-inside-i c =
    let long : length c.args.self.now ≡ c.self.inside.len = sym (ap length c.self.view_is) ∙ length-bytes c.self.inside.words 0 c.self.inside.len in
    omega (arith, long, c.requires, c.self.invariant)

pub returns : goal.returns
returns c =
    let long : length c.args.self.now ≡ c.self.inside.len = sym (ap length c.self.view_is) ∙ length-bytes c.self.inside.words 0 c.self.inside.len in
    and_mask _ 8
    ∙ ap (λ (i : ℕ). get_or c.self.inside.words i 0 / 2 ^ (8 * (c.args.i % 8)) % 256) (sym (zero-add (c.args.i / 8)))
    ∙ bytes_get c.self.inside.words 0 c.self.inside.len c.args.self.now c.args.i c.self.view_is (omega (arith, long, c.requires))
