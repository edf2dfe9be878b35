use Rattle.std.proofs.Common.{arith}
use Rattle.std.specs.Prelude.{codes}
use Rattle.fill_runs.proofs.Counting.{count_ended}
use Rattle.fill_runs.proofs.words.WordCounts.add.Goals as goal

pub returns : goal.returns
returns c = λ text are begun.
    let line = c.args.line.now in
    let word = c.first_word-word.result.now in
    let is = c.first_word-word.ensures in record {
      news = count_ended (codes "NEW") line word text _ _ (omega arith) are.news begun is c.count-self.ensures;
      sets = count_ended (codes "SET") line word text _ _ (omega arith) are.sets begun is c.count-self-2.ensures;
      values = count_ended (codes "VALUE") line word text _ _ (omega arith) are.values begun is c.count-self-3.ensures;
      nones = count_ended (codes "NONE") line word text _ _ (omega arith) are.nones begun is c.count-self-4.ensures;
      gones = count_ended (codes "GONE") line word text _ _ (omega arith) are.gones begun is c.count-self-5.ensures;
      pairs = count_ended (codes "PAIR") line word text _ _ (omega arith) are.pairs begun is c.count-self-6.ensures;
      ends = count_ended (codes "END") line word text _ _ (omega arith) are.ends begun is c.count-self-7.ensures;
      fulls = count_ended (codes "FULL") line word text _ _ (omega arith) are.fulls begun is c.count-self-8.ensures;
      no_memories = count_ended (codes "NOMEM") line word text _ _ (omega arith) are.no_memories begun is c.count-self-9.ensures;
    }
