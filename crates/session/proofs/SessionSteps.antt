-- A session goes on, and comes to an end.
use Rattle.std.proofs.Common.{◌≡◌, ◌<◌, ◌≤◌, ◌+◌, ℕ, List, [], ◌++◌, length, map, take, drop, Bool, true, false, IfOk, refl, sym, ap, ◌∙◌, subst, Option, Result, Ok, Err, ◌||◌, arith, length-append, take-append-drop}
use Rattle.std.proofs.lemmas.List.{append-nil, take_at, take-map}
use mathlib.Core.List.{IsPrefix}
use Rattle.map_model.specs.History.{Entry, IsLegal}
use Rattle.map_model.specs.Ordered.{Follows}
use Rattle.map_model.specs.declared.refusal.Refusal.{Refusal}
use Rattle.map_model.proofs.Growing.{follows_weaker, follows_then}
use Rattle.outside.specs.Reading.{Told, Took, Ended}
use Rattle.outside.specs.declared.stop.Stop.{Stop}
use Rattle.outside.specs.declared.stop.Stop.TheVariants as stops
use Rattle.outside.proofs.Pieces.{wrote_none, took_none, took_more, ended_none, ended_more}
use Rattle.line_reader.specs.Cut.{open_part}
use Rattle.line_reader.specs.Held.{Held}
use Rattle.line_reader.specs.Told.{Holds, told_lines, last_told}
use Rattle.line_reader.proofs.Cutting.{told_lines-append, open_part-append}
use Rattle.line_protocol.specs.Requests.{Asked, request}
use Rattle.line_protocol.specs.Served.{served as served_lines, HasNoQuit}
use Rattle.session.specs.Asked.{asked_by_all, has_quit, upto_quit}
use Rattle.session.specs.Sessions.{TakenBy, ServedBy, SaidBy, StopsBy, InTurn, Session, stop_end, rest_end}
use Rattle.session.specs.Transcripts.{Exchange, Transcribes, asked_of, entries_of, text_of}
use Rattle.session.specs.Turns.{IsTorn, WrotePieces, WritesPieces}
use Rattle.session.specs.Writes.{Reaches}
use Rattle.session.specs.declared.session.TheConstants.{PIECE_BYTES}
use Rattle.session.specs.declared.session.SessionEnd.{SessionEnd}
use Rattle.session.specs.declared.session.SessionEnd.TheVariants as ends
use Rattle.session.proofs.AskedLists.{quit-append, upto-append, upto_none, quit-upto, upto_rest, asked_open, asked_ended, quit_lines, more_quit, more_asked, more_begun}
use Rattle.session.proofs.Gaining.{begins_behind}
use Rattle.session.proofs.Joining.{transcribes_none, transcribes_ends, transcribes_then, transcribes_rest}
use Rattle.session.proofs.Turning.{wrote_behind, torn_behind, torn_none, torn_some}

-- what was asked of all that the lines ask for, by the end
abbrev pub AskedEnd : SessionEnd → List Asked → List Asked → Type 0
AskedEnd ends.Quit all asked = (asked ≡ all) × (has_quit asked ≡ true)
AskedEnd ends.EndOfInput all asked = (asked ≡ all) × (has_quit asked ≡ false)
AskedEnd ends.ReadFault all asked = (asked ≡ all) × (has_quit asked ≡ false)
AskedEnd ends.WriteFault all asked = IsPrefix asked all
AskedEnd ends.NoMemory all asked = IsPrefix asked all
AskedEnd (ends.Spent taken) all asked = (asked ≡ all) × (has_quit asked ≡ false)

-- The lines that asked it.
all_lines : (b : Bool) (all : List (List ℕ)) (asked : List Asked) → (asked ≡ map request all) × (has_quit asked ≡ b) → has_quit (map request all) ≡ b
all_lines b all asked p = ap has_quit (sym p.0) ∙ p.1

some_lines : (all : List (List ℕ)) (asked : List Asked) → IsPrefix asked (map request all) → (lines : List (List ℕ)) × IsPrefix lines all × (asked ≡ map request lines)
some_lines all asked begins =
    let n = length asked in
    (take n all, (drop n all, take-append-drop n all), sym (sym (take-map request n all) ∙ (ap (take n) (sym begins.1) ∙ take_at asked begins.0 n refl)))

lines_of : (end : SessionEnd) (all : List (List ℕ)) (asked : List Asked) → AskedEnd end (map request all) asked → (lines : List (List ℕ)) × ServedBy end all lines × (asked ≡ map request lines)
lines_of ends.Quit all asked p = (all, (refl, quit_lines all ∙ all_lines true all asked p), p.0)
lines_of ends.EndOfInput all asked p = (all, (refl, quit_lines all ∙ all_lines false all asked p), p.0)
lines_of ends.ReadFault all asked p = (all, (refl, quit_lines all ∙ all_lines false all asked p), p.0)
lines_of ends.WriteFault all asked p = some_lines all asked p
lines_of ends.NoMemory all asked p = some_lines all asked p
lines_of (ends.Spent taken) all asked p = (all, (refl, quit_lines all ∙ all_lines false all asked p), p.0)

-- what was written of the pieces, by the end
abbrev pub EndsBy : SessionEnd → Option (List ℕ) → Option (List ℕ) → List Asked → List Exchange → Type 0
EndsBy end w v front pieces = SaidBy end w v (text_of pieces) × StopsBy end w v front pieces

replies_of : (end : SessionEnd) (front all : List (List ℕ)) (w v : Option (List ℕ)) (limit : Option ℕ) (lane : ℕ) (sole : Bool) (fits : List Entry → Type 0) (i j : ℕ) (m n : Option Refusal) (a b : List Entry → Type 0)
    → Follows a b (Transcribes limit lane sole fits i j m n (AskedEnd end (map request all)) (EndsBy end w v (map request front))) → Follows a b (InTurn end front all w v limit lane sole fits i j m n)
replies_of end front all w v limit lane sole fits i j m n a b = follows_weaker a b _ _ (λ old new p.
    let found = lines_of end all (asked_of p.pieces) p.asked in record {
      replies = record {
        lines = found.0;
        entries = entries_of p.pieces;
        output = text_of p.pieces;
        of_all = found.1;
        said = p.said.0;
        grows = p.grows;
        transcript = record { pieces = p.pieces; of_lines = found.2; of_entries = refl; of_output = refl; each = p.each };
        rose = p.rose;
        ends = p.ends;
      };
      stops = p.said.1;
    })

-- Bytes were taken whose whole lines were served, none of which was the last one; the reader has the start of the next line.
pub record Going (taken : ℕ) (lines : Held) (told_before told_now : Option Told) (written_before written_now : Option (List ℕ))
    (limit : Option ℕ) (lane : ℕ) (sole : Bool) (fits : List Entry → Type 0) (count next : ℕ) (last_before last_now : Option Refusal) (before now : List Entry → Type 0) : Type 0 where
  pub bytes : List ℕ
  pub length_is : length bytes ≡ taken
  pub took : Took told_before told_now bytes
  pub answered : Ended told_before told_now false
  pub holds : Holds lines (open_part [] bytes)
  pub going : has_quit (asked_by_all (told_lines [] bytes)) ≡ false
  pub transcript : Follows before now (Transcribes limit lane sole fits count next last_before last_now (λ asked. asked ≡ asked_by_all (told_lines [] bytes)) (WrotePieces written_before written_now))

-- The lines of the bytes that were taken, none of which quits, and the rest at the end of input behind them.
module _ (bytes : List ℕ) (going : has_quit (asked_by_all (told_lines [] bytes)) ≡ false) where
  front_asked : map request (served_lines bytes false) ≡ asked_by_all (told_lines [] bytes)
  front_asked = asked_open bytes ∙ upto_none (asked_by_all (told_lines [] bytes)) going

  front_stays : HasNoQuit (served_lines bytes false)
  front_stays = quit_lines (served_lines bytes false) ∙ (ap has_quit front_asked ∙ going)

  front_begins : (xs : List Asked) → xs ≡ asked_by_all (told_lines [] bytes) → IsPrefix (map request (served_lines bytes false)) xs
  front_begins xs is = ([], append-nil (map request (served_lines bytes false)) ∙ (front_asked ∙ sym is))

  ended_asked : map request (served_lines bytes true) ≡ asked_by_all (told_lines [] bytes) ++ asked_by_all (last_told (open_part [] bytes))
  ended_asked = asked_ended bytes ∙ (upto-append (asked_by_all (told_lines [] bytes)) (asked_by_all (last_told (open_part [] bytes))) going ∙ ap (λ w. asked_by_all (told_lines [] bytes) ++ w) (upto_rest (open_part [] bytes)))

  rest_asked : (xs ys : List Asked) → xs ≡ asked_by_all (told_lines [] bytes) → ys ≡ asked_by_all (last_told (open_part [] bytes)) → xs ++ ys ≡ map request (served_lines bytes true)
  rest_asked xs ys first second = ap (λ w. w ++ ys) first ∙ (ap (λ w. asked_by_all (told_lines [] bytes) ++ w) second ∙ sym ended_asked)

  rest_quit : (xs ys : List Asked) → xs ≡ asked_by_all (told_lines [] bytes) → ys ≡ asked_by_all (last_told (open_part [] bytes)) → has_quit (xs ++ ys) ≡ has_quit (asked_by_all (last_told (open_part [] bytes)))
  rest_quit xs ys first second = quit-append xs ys ∙ (ap (λ w. has_quit w || has_quit ys) first ∙ (ap (λ b. b || has_quit ys) going ∙ ap has_quit second))

  rest_begun : (xs ys : List Asked) → xs ≡ asked_by_all (told_lines [] bytes) → IsPrefix ys (asked_by_all (last_told (open_part [] bytes))) → IsPrefix (xs ++ ys) (map request (served_lines bytes true))
  rest_begun xs ys first second = subst (IsPrefix (xs ++ ys)) (sym ended_asked) (subst (λ w. IsPrefix (w ++ ys) (asked_by_all (told_lines [] bytes) ++ asked_by_all (last_told (open_part [] bytes)))) (sym first) (begins_behind (asked_by_all (told_lines [] bytes)) ys _ second))

-- what an end by a stop asks and says
stop_asked : (stop : Stop) (all asked : List Asked) → IsPrefix asked all → AskedEnd (stop_end stop) all asked
stop_asked stops.Failed all asked begins = begins
stop_asked stops.NoMemory all asked begins = begins

stop_said : (stop : Stop) (w y : Option (List ℕ)) (front : List Asked) (pieces : List Exchange) → IsTorn w y front pieces → EndsBy (stop_end stop) w y front pieces
stop_said stops.Failed w y front pieces torn = (torn_some w y front pieces torn, torn)
stop_said stops.NoMemory w y front pieces torn = (torn_some w y front pieces torn, torn)

stop_taken : (stop : Stop) (budget : ℕ) (bytes : List ℕ) (ended : Bool) → length bytes ≤ budget → TakenBy (stop_end stop) budget bytes ended
stop_taken stops.Failed budget bytes ended within = within
stop_taken stops.NoMemory budget bytes ended within = within

-- and an end at the end of input
rest_taken : (result : Result Bool Stop) (budget : ℕ) (bytes : List ℕ) → length bytes < budget → TakenBy (rest_end result) budget bytes true
rest_taken (Ok true) budget bytes within = omega arith
rest_taken (Ok false) budget bytes within = (within, refl)
rest_taken (Err stop) budget bytes within = stop_taken stop budget bytes true (omega arith)

rest_say : (result : Result Bool Stop) (w v y : Option (List ℕ)) (front : List Asked) (xs ys : List Exchange) → WrotePieces w v xs → IsPrefix front (asked_of xs) → WritesPieces result v y ys → EndsBy (rest_end result) w y front (xs ++ ys)
rest_say (Ok true) w v y front xs ys p begins q = (wrote_behind w v y xs ys p q, tt)
rest_say (Ok false) w v y front xs ys p begins q = (wrote_behind w v y xs ys p q, tt)
rest_say (Err stop) w v y front xs ys p begins q = stop_said stop w y front (xs ++ ys) (torn_behind w v y xs ys p front begins q)

rest_ask : (result : Result Bool Stop) (bytes : List ℕ) (going : has_quit (asked_by_all (told_lines [] bytes)) ≡ false) (xs ys : List Asked) → xs ≡ asked_by_all (told_lines [] bytes)
    → IfOk result (λ quit. quit ≡ has_quit (asked_by_all (last_told (open_part [] bytes)))) → Reaches result (asked_by_all (last_told (open_part [] bytes))) ys → AskedEnd (rest_end result) (map request (served_lines bytes true)) (xs ++ ys)
rest_ask (Ok true) bytes going xs ys p quit q = (rest_asked bytes going xs ys p q, rest_quit bytes going xs ys p q ∙ sym quit)
rest_ask (Ok false) bytes going xs ys p quit q = (rest_asked bytes going xs ys p q, rest_quit bytes going xs ys p q ∙ sym quit)
rest_ask (Err stop) bytes going xs ys p quit q = stop_asked stop (map request (served_lines bytes true)) (xs ++ ys) (rest_begun bytes going xs ys p q)

module _ (budget : ℕ) (taken : ℕ) (lines : Held) (t u : Option Told) (w v : Option (List ℕ)) (limit : Option ℕ) (lane : ℕ) (sole : Bool) (fits : List Entry → Type 0) (i j : ℕ) (m n : Option Refusal) (a b : List Entry → Type 0) where
  -- the store rests or wakes
  pub going_rests : (c : List Entry → Type 0) (k : ℕ) (o : Option Refusal) → k ≡ j → o ≡ n → Going taken lines t u w v limit lane sole fits i j m n a b → Follows b c (λ old new. new ≡ old) → Going taken lines t u w v limit lane sole fits i k m o a c
  going_rests c k o same last s rests = record {
    bytes = s.bytes;
    length_is = s.length_is;
    took = s.took;
    answered = s.answered;
    holds = s.holds;
    going = s.going;
    transcript = transcribes_rest limit lane sole fits a b c i j k m n o _ _ same last s.transcript rests;
  }

  -- an end between lines, behind a read that gave nothing
  pub ends_between : (x : Option Told) (end : SessionEnd) → Took u x [] → Ended u x false → ((bytes : List ℕ) → length bytes ≡ taken → TakenBy end budget bytes false)
      → ((all asked : List Asked) → asked ≡ all → has_quit asked ≡ false → AskedEnd end all asked) → ((front : List Asked) (pieces : List Exchange) → WrotePieces w v pieces → IsPrefix front (asked_of pieces) → EndsBy end w v front pieces)
      → Going taken lines t u w v limit lane sole fits i j m n a b → Session end budget t x w v limit lane sole fits i j m n a b
  ends_between x end took answered by ask say s = record {
    bytes = s.bytes;
    ended = false;
    took = subst (Took t x) (append-nil s.bytes) (took_more t u x s.bytes [] s.took took);
    answered = ended_more t u x false s.answered answered;
    taken = by s.bytes s.length_is;
    front = s.bytes;
    piece = [];
    parts = sym (append-nil s.bytes);
    one_piece = omega arith;
    stays = front_stays s.bytes s.going;
    replies = replies_of end (served_lines s.bytes false) (served_lines s.bytes false) w v limit lane sole fits i j m n a b (transcribes_ends limit lane sole fits a b i j m n _ _ _ _
        (λ asked p. ask (map request (served_lines s.bytes false)) asked (p ∙ sym (front_asked s.bytes s.going)) (ap has_quit p ∙ s.going))
        (λ pieces asked p. say (map request (served_lines s.bytes false)) pieces p (front_begins s.bytes s.going (asked_of pieces) asked)) s.transcript);
  }

  module _ (x : Option Told) (y : Option (List ℕ)) (less : List Entry → Type 0) (k : ℕ) (o : Option Refusal) (c : List Entry → Type 0) (fewer : (h : List Entry) → fits h → less h) where
    -- a piece without the last line
    pub going_more : (piece : List ℕ) (more : ℕ) (next : Held) → length piece ≡ more → Took u x piece → Ended u x false → Going taken lines t u w v limit lane sole fits i j m n a b
        → ((part : List ℕ) → Holds lines part → has_quit (asked_by_all (told_lines part piece)) ≡ false) → ((part : List ℕ) → Holds lines part → Holds next (open_part part piece))
        → ((part : List ℕ) → Holds lines part → Follows b c (Transcribes limit lane sole less j k n o (λ asked. asked ≡ upto_quit (asked_by_all (told_lines part piece))) (WrotePieces v y)))
        → Going (taken + more) next t x w y limit lane sole fits i k m o a c
    going_more piece more next len took answered s quit kept served =
        let part = open_part [] s.bytes in
        let going : has_quit (asked_by_all (told_lines [] (s.bytes ++ piece))) ≡ false = more_quit (told_lines [] s.bytes) (told_lines part piece) (told_lines [] (s.bytes ++ piece)) (told_lines-append [] s.bytes piece) s.going ∙ quit part s.holds in record {
          bytes = s.bytes ++ piece;
          length_is = omega (arith, length-append s.bytes piece, s.length_is, len);
          took = took_more t u x s.bytes piece s.took took;
          answered = ended_more t u x false s.answered answered;
          holds = subst (Holds next) (sym (open_part-append [] s.bytes piece)) (kept part s.holds);
          going = going;
          transcript = transcribes_then limit lane sole fits a b c less i j k m n o _ _ _ _ _ _ fewer (λ xs ys p q. more_asked (told_lines [] s.bytes) (told_lines part piece) (told_lines [] (s.bytes ++ piece)) (told_lines-append [] s.bytes piece) s.going xs ys p q ∙ upto_none _ going) (λ xs ys asked p q. wrote_behind w v y xs ys p q) s.transcript (served part s.holds);
        }

    -- a piece with the last line
    pub ends_quit : (piece : List ℕ) → Took u x piece → Ended u x false → taken + length piece ≤ budget → length piece ≤ PIECE_BYTES → Going taken lines t u w v limit lane sole fits i j m n a b
        → ((part : List ℕ) → Holds lines part → has_quit (asked_by_all (told_lines part piece)) ≡ true)
        → ((part : List ℕ) → Holds lines part → Follows b c (Transcribes limit lane sole less j k n o (λ asked. asked ≡ upto_quit (asked_by_all (told_lines part piece))) (WrotePieces v y)))
        → Session ends.Quit budget t x w y limit lane sole fits i k m o a c
    ends_quit piece took answered within few s quit served =
        let part = open_part [] s.bytes in
        let bytes = s.bytes ++ piece in record {
          bytes = bytes;
          ended = false;
          took = took_more t u x s.bytes piece s.took took;
          answered = ended_more t u x false s.answered answered;
          taken = omega (arith, within, length-append s.bytes piece, s.length_is);
          front = s.bytes;
          piece = piece;
          parts = refl;
          one_piece = few;
          stays = front_stays s.bytes s.going;
          replies = replies_of ends.Quit (served_lines s.bytes false) (served_lines bytes false) w y limit lane sole fits i k m o a c (transcribes_then limit lane sole fits a b c less i j k m n o _ _ _ _ _ _ fewer
              (λ xs ys p q.
              let all = more_asked (told_lines [] s.bytes) (told_lines part piece) (told_lines [] (s.bytes ++ piece)) (told_lines-append [] s.bytes piece) s.going xs ys p q in
              (all ∙ sym (asked_open bytes), ap has_quit all ∙ (quit-upto (asked_by_all (told_lines [] bytes)) ∙ (more_quit (told_lines [] s.bytes) (told_lines part piece) (told_lines [] (s.bytes ++ piece)) (told_lines-append [] s.bytes piece) s.going ∙ quit part s.holds))))
              (λ xs ys asked p q. (wrote_behind w v y xs ys p q, tt)) s.transcript (served part s.holds));
        }

    -- a piece that wasn't served to its end
    pub ends_stop : (stop : Stop) (piece : List ℕ) → Took u x piece → Ended u x false → taken + length piece ≤ budget → length piece ≤ PIECE_BYTES → Going taken lines t u w v limit lane sole fits i j m n a b
        → ((part : List ℕ) → Holds lines part → Follows b c (Transcribes limit lane sole less j k n o (λ asked. IsPrefix asked (upto_quit (asked_by_all (told_lines part piece)))) (λ pieces. IsTorn v y [] pieces)))
        → Session (stop_end stop) budget t x w y limit lane sole fits i k m o a c
    ends_stop stop piece took answered within few s served =
        let part = open_part [] s.bytes in
        let bytes = s.bytes ++ piece in record {
          bytes = bytes;
          ended = false;
          took = took_more t u x s.bytes piece s.took took;
          answered = ended_more t u x false s.answered answered;
          taken = stop_taken stop budget bytes false (omega (arith, within, length-append s.bytes piece, s.length_is));
          front = s.bytes;
          piece = piece;
          parts = refl;
          one_piece = few;
          stays = front_stays s.bytes s.going;
          replies = replies_of (stop_end stop) (served_lines s.bytes false) (served_lines bytes false) w y limit lane sole fits i k m o a c (transcribes_then limit lane sole fits a b c less i j k m n o _ _ _ _ _ _ fewer
              (λ xs ys p q. stop_asked stop (map request (served_lines bytes false)) (xs ++ ys) (subst (IsPrefix (xs ++ ys)) (sym (asked_open bytes)) (more_begun (told_lines [] s.bytes) (told_lines part piece) (told_lines [] (s.bytes ++ piece)) (told_lines-append [] s.bytes piece) s.going xs ys p q)))
              (λ xs ys asked p q. stop_said stop w y _ (xs ++ ys) (torn_behind w v y xs ys p _ (front_begins s.bytes s.going (asked_of xs) asked) q)) s.transcript (served part s.holds));
        }

    -- the rest at the end of input
    pub ends_rest : (result : Result Bool Stop) → Took u x [] → Ended u x true → taken < budget → Going taken lines t u w v limit lane sole fits i j m n a b
        → ((part : List ℕ) → Holds lines part → IfOk result (λ quit. quit ≡ has_quit (asked_by_all (last_told part))))
        → ((part : List ℕ) → Holds lines part → Follows b c (Transcribes limit lane sole less j k n o (Reaches result (asked_by_all (last_told part))) (WritesPieces result v y)))
        → Session (rest_end result) budget t x w y limit lane sole fits i k m o a c
    ends_rest result took answered within s quit served =
        let part = open_part [] s.bytes in record {
          bytes = s.bytes;
          ended = true;
          took = subst (Took t x) (append-nil s.bytes) (took_more t u x s.bytes [] s.took took);
          answered = ended_more t u x true s.answered answered;
          taken = rest_taken result budget s.bytes (omega (arith, within, s.length_is));
          front = s.bytes;
          piece = [];
          parts = sym (append-nil s.bytes);
          one_piece = omega arith;
          stays = front_stays s.bytes s.going;
          replies = replies_of (rest_end result) (served_lines s.bytes false) (served_lines s.bytes true) w y limit lane sole fits i k m o a c (transcribes_then limit lane sole fits a b c less i j k m n o _ _ _ _ _ _ fewer
              (λ xs ys p q. rest_ask result s.bytes s.going xs ys p (quit part s.holds) q)
              (λ xs ys asked p q. rest_say result w v y _ xs ys p (front_begins s.bytes s.going (asked_of xs) asked) q) s.transcript (served part s.holds));
        }

-- before the first read
pub going_none : (budget : ℕ) (lines : Held) (t : Option Told) (w : Option (List ℕ)) (limit : Option ℕ) (lane : ℕ) (sole : Bool) (fits : List Entry → Type 0) (i : ℕ) (m : Option Refusal) (a : List Entry → Type 0)
    → Holds lines [] → ((old : List Entry) → a old → IsLegal old) → Going 0 lines t t w w limit lane sole fits i i m m a a
going_none budget lines t w limit lane sole fits i m a holds legal = record {
  bytes = [];
  length_is = refl;
  took = took_none t;
  answered = ended_none t;
  holds = holds;
  going = refl;
  transcript = transcribes_none limit lane sole fits a i m _ _ legal refl (wrote_none w);
}

-- there was no memory to begin
pub ends_early : (budget : ℕ) (t : Option Told) (w : Option (List ℕ)) (limit : Option ℕ) (lane : ℕ) (sole : Bool) (fits : List Entry → Type 0) (i : ℕ) (m : Option Refusal) (a : List Entry → Type 0)
    → ((old : List Entry) → a old → IsLegal old) → Session ends.NoMemory budget t t w w limit lane sole fits i i m m a a
ends_early budget t w limit lane sole fits i m a legal = record {
  bytes = [];
  ended = false;
  took = took_none t;
  answered = ended_none t;
  taken = omega arith;
  front = [];
  piece = [];
  parts = refl;
  one_piece = omega arith;
  stays = refl;
  replies = replies_of ends.NoMemory (served_lines [] false) (served_lines [] false) w w limit lane sole fits i i m m a a (transcribes_none limit lane sole fits a i m _ _ legal ([], refl) (torn_some w w [] [] (torn_none w), torn_none w));
}

-- the store rests behind a session
pub session_rests : (end : SessionEnd) (budget : ℕ) (t u : Option Told) (w v : Option (List ℕ)) (limit : Option ℕ) (lane : ℕ) (sole : Bool) (fits : List Entry → Type 0) (i j : ℕ) (m n : Option Refusal) (a b c : List Entry → Type 0) (k : ℕ) (o : Option Refusal)
    → k ≡ j → o ≡ n → Session end budget t u w v limit lane sole fits i j m n a b → Follows b c (λ old new. new ≡ old) → Session end budget t u w v limit lane sole fits i k m o a c
session_rests end budget t u w v limit lane sole fits i j m n a b c k o same last s rests =
    let all = served_lines s.bytes s.ended in
    let first = served_lines s.front false in record {
      bytes = s.bytes;
      ended = s.ended;
      took = s.took;
      answered = s.answered;
      taken = s.taken;
      front = s.front;
      piece = s.piece;
      parts = s.parts;
      one_piece = s.one_piece;
      stays = s.stays;
      replies = follows_then a b c _ _ _ (λ old mid new p q. subst (λ h. InTurn end first all w v limit lane sole fits i k m o old h) (sym q) (subst (λ l. InTurn end first all w v limit lane sole fits i l m o old mid) (sym same) (subst (λ l. InTurn end first all w v limit lane sole fits i j m l old mid) (sym last) p))) s.replies rests;
    }
