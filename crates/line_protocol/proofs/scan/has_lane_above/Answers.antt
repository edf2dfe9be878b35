use Rattle.std.proofs.Common.{◌%◌, ◌^◌, eqb, ltb, not, map, replicate, ap, ◌∙◌, w8, arith}
use Rattle.std.specs.Simd.Lanes.{mask_l}
use Rattle.std.proofs.lemmas.List.{length-map}
use Rattle.std.proofs.lemmas.Simd.{tops_compared, zip2_splat_left, mask_l-mod}
use Rattle.line_protocol.proofs.Sought.{mask_tells}
use Rattle.line_protocol.proofs.scan.has_lane_above.Goals as goal

pub returns : goal.returns
returns g c =
    let part = c.args.part in
    let above = ltb c.args.byte in
    let few = c.requires in
    ap (λ m. not (eqb m 0))
    (ap (λ ms. mask_l ms % 2 ^ 64) (tops_compared w8 ltb (replicate g.row.N c.args.byte) part ∙ zip2_splat_left ltb c.args.byte g.row.N part c.fits-part.0)
    ∙ mask_l-mod (map above part) 64 (omega (arith, length-map part above, c.fits-part.0, few)))
    ∙ mask_tells above part
