use Rattle.std.proofs.lemmas.Result.{IfOk-weaker}
use Rattle.std.specs.Fn.{CalledAtTwo}
use Rattle.patience.proofs.Scanning.{scan_whole}
use Rattle.patience.proofs.scans.scan_patiently.Goals as goal

pub returns-clause-map : goal.returns-clause-map
returns-clause-map g c = IfOk-weaker c.scan_parts.result _ _ (λ whole follows. scan_whole (CalledAtTwo g.F.FnMut) _ _ _ _ _ _ _ whole follows) c.scan_parts.ensures.ok
