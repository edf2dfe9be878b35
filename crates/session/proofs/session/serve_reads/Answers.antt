use Rattle.std.proofs.Common.{◌≡◌, ◌≤◌, ◌+◌, ◌-◌, ◌++◌, min, [], List, length, take, drop, refl, sym, ap, ◌∙◌, subst, arith}
use Rattle.std.proofs.lemmas.Bool.{ne_eqb}
use Rattle.std.proofs.lemmas.List.{append-nil, take-append-le, length-take-le}
use Rattle.line_reader.specs.Cut.{open_part}
use Rattle.map_model.specs.History.{Entry}
use Rattle.outside.specs.Reading.{Took, Ended}
use Rattle.outside.proofs.Pieces.{took_none, ended_none}
use Rattle.session.specs.declared.session.TheConstants.{PIECE_BYTES}
use Rattle.session.specs.declared.session.SessionEnd.TheVariants as ends
use Rattle.session.proofs.Turning.{torn_whole, torn_some}
use Rattle.session.proofs.SessionSteps.{going_none, going_rests, going_more, ends_early, ends_between, ends_quit, ends_stop, ends_rest}
use Rattle.session.proofs.session.serve_reads.Goals as goal

pub returns-in-Err-clause-session : goal.returns-in-Err-clause-session
returns-in-Err-clause-session g c = ends_early _ _ _ _ _ _ _ _ _ _ (λ old history. g.met.O.Ordered.stands_legal _ old history)

pub reads-init : goal.reads-init
reads-init g c = record {
  session = going_none c.args.budget _ _ _ _ _ _ _ _ _ _ c.in-Ok.ensures (λ old history. g.met.O.Ordered.stands_legal _ old history);
  within = omega arith;
  lane = refl;
  sole = refl;
  origin = refl;
  forks = refl;
  limit = refl;
  fits = λ history fit. fit;
  reads = omega arith;
  writes = omega arith;
  source = refl;
  sink = refl;
}

pub serve_rest-requires : goal.serve_rest-requires
serve_rest-requires g c = (open_part [] c.reads.invariant.session.bytes, c.reads.invariant.session.holds)

pub serve_piece-requires : goal.serve_piece-requires
serve_piece-requires g c = (open_part [] c.reads.invariant.session.bytes, c.reads.invariant.session.holds)

pub returns-then-n-eq0-clause-session : goal.returns-then-n-eq0-clause-session
returns-then-n-eq0-clause-session g c =
    let now = c.reads.invariant in
    let read = c.read_resting.ensures in
    let rested = going_rests c.args.budget _ _ _ _ _ _ _ _ _ _ _ _ _ _ _ _ _ _ _ read.counted.0 read.counted.1 now.session read.seen in
    let lane : g.O.Ordered.lane c.read_resting.new.store ≡ g.O.Ordered.lane c.args.store.now = read.kept.0 ∙ now.lane in
    let sole : g.O.Ordered.sole c.read_resting.new.store ≡ g.O.Ordered.sole c.args.store.now = read.kept.1 ∙ now.sole in
    let fewer : (h : List Entry) → g.O.Ordered.fits c.args.store.now h → g.O.Ordered.fits c.read_resting.new.store h = λ h fit. read.fits h (now.fits h fit) in
    let got = c.in-Ok-read_resting.ensures in
    rw c.end_of_rest.ensures
    (ends_rest _ _ _ _ _ _ _ _ _ _ _ _ _ _ _ _ _ _ _ _ _ _ _ fewer c.serve_rest.result (rw c.if-n-eq0.true at got.bytes) (rw c.if-n-eq0.true at got.ended) (omega arith) rested c.serve_rest.ensures.quit
    (λ part holds. rw (lane, sole, now.limit) at (c.serve_rest.ensures.served part holds)))

pub returns-in-Ok-true-clause-session : goal.returns-in-Ok-true-clause-session
returns-in-Ok-true-clause-session g c =
    let now = c.reads.invariant in
    let read = c.read_resting.ensures in
    let rested = going_rests c.args.budget _ _ _ _ _ _ _ _ _ _ _ _ _ _ _ _ _ _ _ read.counted.0 read.counted.1 now.session read.seen in
    let lane : g.O.Ordered.lane c.read_resting.new.store ≡ g.O.Ordered.lane c.args.store.now = read.kept.0 ∙ now.lane in
    let sole : g.O.Ordered.sole c.read_resting.new.store ≡ g.O.Ordered.sole c.args.store.now = read.kept.1 ∙ now.sole in
    let fewer : (h : List Entry) → g.O.Ordered.fits c.args.store.now h → g.O.Ordered.fits c.read_resting.new.store h = λ h fit. read.fits h (now.fits h fit) in
    let n = c.in-Ok-read_resting.n in
    let got = c.in-Ok-read_resting.ensures in
    let piece = take n (c.read_resting.new.buf ++ drop c.min-room.result c.reads.piece) in
    let front : piece ≡ take n c.read_resting.new.buf = take-append-le n c.read_resting.new.buf (drop c.min-room.result c.reads.piece) got.bound.0 in
    let len : length piece ≡ n = ap length front ∙ sym got.bound.1 in
    let took = subst (Took (g.S.Source.told c.reads.source) (g.S.Source.told c.read_resting.new.source)) (sym front) got.bytes in
    let answered = subst (Ended (g.S.Source.told c.reads.source) (g.S.Source.told c.read_resting.new.source)) (ne_eqb n 0 c.if-n-eq0.false) got.ended in
    let same : length c.read_resting.new.buf ≡ length (take c.min-room.result c.reads.piece) = c.read_resting.auto.buf in
    let room : c.min-room.result ≡ min (c.args.budget - c.reads.taken) PIECE_BYTES = c.min-room.ensures in
    let within : c.reads.taken + length piece ≤ c.args.budget = omega (arith, len, got.bound.0, same, room, length-take-le c.min-room.result c.reads.piece, c.reads-test.true) in
    let few : length piece ≤ PIECE_BYTES = omega (arith, len, got.bound.0, same, room, length-take-le c.min-room.result c.reads.piece) in
    let done = c.in-Ok-true.ensures in
    ends_quit _ _ _ _ _ _ _ _ _ _ _ _ _ _ _ _ _ _ _ _ _ _ _ fewer piece took answered within few rested (λ part holds. sym (done.quit part holds) ∙ c.in-Ok-true.field-0-test) (λ part holds. rw (lane, sole, now.limit) at (done.served part holds))

pub returns-in-Err-serve_piece-clause-session : goal.returns-in-Err-serve_piece-clause-session
returns-in-Err-serve_piece-clause-session g c =
    let now = c.reads.invariant in
    let read = c.read_resting.ensures in
    let rested = going_rests c.args.budget _ _ _ _ _ _ _ _ _ _ _ _ _ _ _ _ _ _ _ read.counted.0 read.counted.1 now.session read.seen in
    let lane : g.O.Ordered.lane c.read_resting.new.store ≡ g.O.Ordered.lane c.args.store.now = read.kept.0 ∙ now.lane in
    let sole : g.O.Ordered.sole c.read_resting.new.store ≡ g.O.Ordered.sole c.args.store.now = read.kept.1 ∙ now.sole in
    let fewer : (h : List Entry) → g.O.Ordered.fits c.args.store.now h → g.O.Ordered.fits c.read_resting.new.store h = λ h fit. read.fits h (now.fits h fit) in
    let n = c.in-Ok-read_resting.n in
    let got = c.in-Ok-read_resting.ensures in
    let piece = take n (c.read_resting.new.buf ++ drop c.min-room.result c.reads.piece) in
    let front : piece ≡ take n c.read_resting.new.buf = take-append-le n c.read_resting.new.buf (drop c.min-room.result c.reads.piece) got.bound.0 in
    let len : length piece ≡ n = ap length front ∙ sym got.bound.1 in
    let took = subst (Took (g.S.Source.told c.reads.source) (g.S.Source.told c.read_resting.new.source)) (sym front) got.bytes in
    let answered = subst (Ended (g.S.Source.told c.reads.source) (g.S.Source.told c.read_resting.new.source)) (ne_eqb n 0 c.if-n-eq0.false) got.ended in
    let same : length c.read_resting.new.buf ≡ length (take c.min-room.result c.reads.piece) = c.read_resting.auto.buf in
    let room : c.min-room.result ≡ min (c.args.budget - c.reads.taken) PIECE_BYTES = c.min-room.ensures in
    let within : c.reads.taken + length piece ≤ c.args.budget = omega (arith, len, got.bound.0, same, room, length-take-le c.min-room.result c.reads.piece, c.reads-test.true) in
    let few : length piece ≤ PIECE_BYTES = omega (arith, len, got.bound.0, same, room, length-take-le c.min-room.result c.reads.piece) in
    rw c.end_of_stop.ensures
    (ends_stop _ _ _ _ _ _ _ _ _ _ _ _ _ _ _ _ _ _ _ _ _ _ _ fewer c.in-Err-serve_piece.stop piece took answered within few rested (λ part holds. rw (lane, sole, now.limit) at (c.in-Err-serve_piece.ensures.served part holds)))

pub returns-in-Err-Failed-clause-session : goal.returns-in-Err-Failed-clause-session
returns-in-Err-Failed-clause-session g c =
    let now = c.reads.invariant in
    let read = c.read_resting.ensures in
    let rested = going_rests c.args.budget _ _ _ _ _ _ _ _ _ _ _ _ _ _ _ _ _ _ _ read.counted.0 read.counted.1 now.session read.seen in
    ends_between _ _ _ _ _ _ _ _ _ _ _ _ _ _ _ _ _ _ ends.ReadFault c.in-Err-Failed.ensures.bytes c.in-Err-Failed.ensures.ended (λ bytes is. (omega (arith, is), refl)) (λ all asked is none. (is, none)) (λ front pieces wrote begins. (wrote, tt)) rested

pub returns-in-Err-NoMemory-clause-session : goal.returns-in-Err-NoMemory-clause-session
returns-in-Err-NoMemory-clause-session g c =
    let now = c.reads.invariant in
    let read = c.read_resting.ensures in
    let rested = going_rests c.args.budget _ _ _ _ _ _ _ _ _ _ _ _ _ _ _ _ _ _ _ read.counted.0 read.counted.1 now.session read.seen in
    ends_between _ _ _ _ _ _ _ _ _ _ _ _ _ _ _ _ _ _ ends.NoMemory c.in-Err-NoMemory.ensures.bytes c.in-Err-NoMemory.ensures.ended (λ bytes is. omega (arith, is)) (λ all asked is none. ([], append-nil asked ∙ is)) (λ front pieces wrote begins. let torn = torn_whole _ _ pieces front wrote begins in (torn_some _ _ front pieces torn, torn)) rested

pub returns-clause-session : goal.returns-clause-session
returns-clause-session g c =
    let now = c.reads.invariant in
    ends_between _ _ _ _ _ _ _ _ _ _ _ _ _ _ _ _ _ _ (ends.Spent c.reads.taken) (took_none _) (ended_none _) (λ bytes is. (omega (arith, is, now.within), omega (arith, now.within), refl)) (λ all asked is none. (is, none)) (λ front pieces wrote begins. (wrote, tt)) now.session

pub reads-preserved : goal.reads-preserved
reads-preserved g c =
    let now = c.reads.invariant in
    let read = c.read_resting.ensures in
    let rested = going_rests c.args.budget _ _ _ _ _ _ _ _ _ _ _ _ _ _ _ _ _ _ _ read.counted.0 read.counted.1 now.session read.seen in
    let lane : g.O.Ordered.lane c.read_resting.new.store ≡ g.O.Ordered.lane c.args.store.now = read.kept.0 ∙ now.lane in
    let sole : g.O.Ordered.sole c.read_resting.new.store ≡ g.O.Ordered.sole c.args.store.now = read.kept.1 ∙ now.sole in
    let fewer : (h : List Entry) → g.O.Ordered.fits c.args.store.now h → g.O.Ordered.fits c.read_resting.new.store h = λ h fit. read.fits h (now.fits h fit) in
    let n = c.in-Ok-read_resting.n in
    let got = c.in-Ok-read_resting.ensures in
    let piece = take n (c.read_resting.new.buf ++ drop c.min-room.result c.reads.piece) in
    let front : piece ≡ take n c.read_resting.new.buf = take-append-le n c.read_resting.new.buf (drop c.min-room.result c.reads.piece) got.bound.0 in
    let len : length piece ≡ n = ap length front ∙ sym got.bound.1 in
    let took = subst (Took (g.S.Source.told c.reads.source) (g.S.Source.told c.read_resting.new.source)) (sym front) got.bytes in
    let answered = subst (Ended (g.S.Source.told c.reads.source) (g.S.Source.told c.read_resting.new.source)) (ne_eqb n 0 c.if-n-eq0.false) got.ended in
    let same : length c.read_resting.new.buf ≡ length (take c.min-room.result c.reads.piece) = c.read_resting.auto.buf in
    let room : c.min-room.result ≡ min (c.args.budget - c.reads.taken) PIECE_BYTES = c.min-room.ensures in
    let within : c.reads.taken + length piece ≤ c.args.budget = omega (arith, len, got.bound.0, same, room, length-take-le c.min-room.result c.reads.piece, c.reads-test.true) in
    let done = c.in-Ok-false.ensures in record {
      session = going_more c.args.budget _ _ _ _ _ _ _ _ _ _ _ _ _ _ _ _ _ _ _ _ _ _ fewer piece n c.serve_piece.new.lines len took answered rested (λ part holds. sym (done.quit part holds) ∙ c.in-Ok-false.field-0-test) (λ part holds. rw c.in-Ok-false.field-0-test at (done.held part holds))
          (λ part holds. rw (lane, sole, now.limit) at (done.served part holds));
      within = omega (arith, within, len);
      lane = done.kept.0 ∙ lane;
      sole = done.kept.1 ∙ sole;
      origin = done.kept.2 ∙ (read.kept.2 ∙ now.origin);
      forks = done.forks ∙ (read.forks ∙ now.forks);
      limit = done.kept.3 ∙ now.limit;
      fits = λ h fit. done.fits h (fewer h fit);
      reads = omega (arith, now.reads, got.cause);
      writes = omega (arith, now.writes, done.cause);
      source = read.kept.3 ∙ now.source;
      sink = done.kept.4 ∙ now.sink;
    }
