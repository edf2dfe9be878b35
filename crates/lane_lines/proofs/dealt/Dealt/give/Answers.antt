use Rattle.std.proofs.Common.{◌<◌, ◌++◌, [], ◌∷◌, length, refl, sym, ap, ◌∙◌, append_assoc, arith, rules, ℕ, Vec}
use Rattle.std.specs.declared.alloc.Global.{Global}
use Rattle.lane_lines.proofs.Dealing.{script_here, script_else, script_get}
use Rattle.lane_lines.proofs.dealt.Dealt.give.Goals as goal

pub returns : goal.returns
returns c =
    let scripts = c.args.self.now.scripts.items in
    let lane = c.args.lane in
    let within : lane < length scripts = omega (arith, c.requires, c.args.self.now.scripts.ok.0) in
    let script = c.index_mut-script.result.now in
    let added = c.push.new.self in
    record {
      many = search rules;
      mine = script_here scripts lane added within
          ∙ (c.in_ok-push.ensures.items ∙ (ap (λ l. l ++ 10 ∷ []) c.in_ok-extend_from_slice.ensures.items
          ∙ (append_assoc script.items c.args.rest.now (10 ∷ []) ∙ ap (λ l. l ++ (c.args.rest.now ++ 10 ∷ [])) (ap (λ (v : Vec ℕ Global). v.items) c.index_mut-script.ensures.value ∙ sym (script_get scripts lane _ within)))));
      others = λ other apart. script_else scripts lane other added apart;
      faults = refl;
    }
