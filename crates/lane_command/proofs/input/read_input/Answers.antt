use Rattle.std.proofs.Common.{◌≡◌, ◌≤◌, ◌+◌, ◌-◌, length, take, drop, false, sym, ap, ◌∙◌, subst, arith}
use Rattle.std.proofs.lemmas.List.{length-take, length-drop}
use Rattle.std.proofs.lemmas.Bool.{ne_eqb}
use Rattle.outside.specs.Reading.{Took, Ended}
use Rattle.outside.proofs.Pieces.{took_more, ended_more}
use Rattle.lane_command.specs.declared.input.InputFault.TheVariants.{ReadFault, NoMemory}
use Rattle.lane_command.proofs.Taking.{kept_front, front_more, held_more, stops}
use Rattle.lane_command.proofs.input.read_input.Goals as goal

pub reads-preserved : goal.reads-preserved
reads-preserved g c =
    let now = c.reads.invariant in
    let taken = c.reads.taken in
    let n = c.in-Ok-read.n in
    let got = c.in-Ok-read.ensures in
    let room = c.min-room.result in
    let all = c.deref_mut.result.now in
    let buf = c.read.new.buf in
    let room_is = c.min-room.ensures in
    let whole : length all ≡ taken + room = omega (arith, c.deref_mut.ensures.len, c.in-Ok.ensures.len) in
    let front : take taken all ≡ take taken c.reads.input.items = ap (take taken) c.deref_mut.ensures.value ∙ (ap (take taken) c.in-Ok.ensures.items ∙ kept_front c.reads.input.items _ taken room now.held) in
    let held : length (take taken all) ≡ taken = omega (arith, whole, length-take taken all) in
    let bound : n ≤ length buf = got.bound.0 in
    let within : n ≤ room = omega (arith, bound, c.read.auto.buf, whole, length-take (length all - taken) (drop taken all), length-drop taken all) in
    let len : taken + n ≤ c.resize.new.self.len = omega (arith, within, c.in-Ok.ensures.len) in
    let took = took_more _ _ _ (take taken all) (take n buf) (subst (Took (g.S.Source.told c.args.source.now) (g.S.Source.told c.reads.source)) (sym front) now.took) got.bytes in record {
      within = omega (arith, within, room_is, now.within);
      held = held_more (take taken all) buf _ _ taken n c.resize.new.self.len held bound len;
      took = subst (Took (g.S.Source.told c.args.source.now) (g.S.Source.told c.read.new.self)) (sym (front_more (take taken all) buf _ _ taken n c.resize.new.self.len held bound len)) took;
      answered = ended_more _ _ _ false now.answered (subst (λ zero. Ended (g.S.Source.told c.reads.source) (g.S.Source.told c.read.new.self) zero) (ne_eqb n 0 c.in-Ok-read.n-test.1) got.ended);
      later = omega (arith, now.later, got.cause);
    }

pub returns-in-Err-Failed-clause-read : goal.returns-in-Err-Failed-clause-read
returns-in-Err-Failed-clause-read g c =
    let now = c.reads.invariant in
    stops ReadFault _ _ _ c.reads.input.items c.reads.taken now.held c.reads-test.true now.took now.answered c.in-Err-Failed.ensures.bytes c.in-Err-Failed.ensures.ended

pub returns-in-Err-NoMemory-clause-read : goal.returns-in-Err-NoMemory-clause-read
returns-in-Err-NoMemory-clause-read g c =
    let now = c.reads.invariant in
    stops NoMemory _ _ _ c.reads.input.items c.reads.taken now.held c.reads-test.true now.took now.answered c.in-Err-NoMemory.ensures.bytes c.in-Err-NoMemory.ensures.ended
