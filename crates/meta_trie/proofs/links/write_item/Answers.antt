use Rattle.std.proofs.Common.{rules, ◌≡◌, get_or}
use Rattle.row_words.specs.Layout.{item_word}
use Rattle.meta_trie.proofs.Four.{four}
use Rattle.meta_trie.proofs.links.write_item.Goals as goal

pub returns-clause-words : goal.returns-clause-words
returns-clause-words g c =
    let base : item_word (g.R.Rows.shape c.args.rows.now) c.args.at ≡ c.item_word-base.result = cc in
    record {
      w1 = g.R.Rows.words c.put.new.rows;
      w2 = g.R.Rows.words c.put-2.new.rows;
      link = c.pack_link-link.result;
      sides = c.pack_sides-sides.result;
      b0 = get_or c.args.item.now.bits 0 0;
      b1 = get_or c.args.item.now.bits 1 0;
      b2 = get_or c.args.item.now.bits 2 0;
      b3 = get_or c.args.item.now.bits 3 0;
      first = rw (base) c.put.ensures.words;
      second = c.put-2.ensures.words;
      third = c.put-3.ensures.words;
      codes = record {
        next_is = c.pack_link-link.ensures.next;
        len_is = c.pack_link-link.ensures.len;
        mark_is = c.pack_link-link.ensures.mark;
        first_is = c.pack_sides-sides.ensures.first;
        last_is = c.pack_sides-sides.ensures.last;
        bits_are = four c.args.item.now.bits (search rules);
      };
    }

pub returns-clause-stays : goal.returns-clause-stays
returns-clause-stays g c = let t = g.met.R.Rows.stays_trans in t _ _ _ (t _ _ _ c.put.ensures.stays c.put-2.ensures.stays) c.put-3.ensures.stays
