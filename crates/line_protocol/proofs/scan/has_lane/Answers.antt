use Rattle.std.proofs.Common.{eqb, not, ap, ◌∙◌, w8}
use Rattle.std.proofs.lemmas.Simd.{bitmask_splat}
use Rattle.line_protocol.proofs.Sought.{mask_tells}
use Rattle.line_protocol.proofs.scan.has_lane.Goals as goal

pub returns : goal.returns
returns g c =
    ap (λ m. not (eqb m 0)) (bitmask_splat w8 eqb c.args.part g.row.N c.args.byte c.fits-part.0 c.requires)
    ∙ mask_tells (λ b. eqb b c.args.byte) c.args.part
