-- A transcript of one map alone that tells no refusal is what the map answers.
use Rattle.std.proofs.Common.{◌≡◌, ◌≢◌, ◌⊎◌, ℕ, ◌-◌, List, [], ◌∷◌, ◌++◌, length, take, not, ◌||◌, ◌==◌, Bool, true, false, refl, sym, ap, ◌∙◌, subst, inl, inr, Option, Some, None, Ok, Err, append_assoc}
use Rattle.std.specs.Prelude.{codes}
use Rattle.std.specs.List.{flat_map}
use Rattle.std.specs.Ordering.{is_lt}
use Rattle.std.proofs.lemmas.Bool.{eqb-true}
use Rattle.std.proofs.lemmas.List.{append-nil}
use Rattle.std.proofs.lemmas.List.Concat.{flat_map-append}
use Rattle.std.specs.declared.cmp.Ordering.{Ordering}
use Rattle.std.specs.declared.cmp.Ordering.TheVariants.{Less, Equal, Greater}
use mathlib.Core.List.{IsPrefix}
use Rattle.key_bytes.specs.Bound.{bound_cmp}
use Rattle.key_bytes.specs.declared.bound.Bound.{Bound}
use Rattle.map_model.specs.Maps.{Pairs, IsMap, between}
use Rattle.map_model.specs.Calls as calls
use Rattle.map_model.specs.History.{Entry, IsLegalFrom, map_from}
use Rattle.map_model.specs.declared.refusal.Refusal.{Refusal}
use Rattle.map_model.specs.declared.refusal.Refusal.TheVariants as refusals
use Rattle.map_model.specs.declared.refusal.Again.{Again as Cause}
use Rattle.map_model.specs.declared.refusal.Full.TheVariants as fulls
use Rattle.map_model.proofs.Histories.{legal-parts, ascending_from}
use Rattle.map_model.proofs.Parts.{between_none, between_split}
use Rattle.line_protocol.specs.declared.answer.Answer.TheVariants as answers
use Rattle.line_protocol.specs.declared.fault.Fault.{Fault}
use Rattle.line_protocol.specs.declared.fault.Fault.TheVariants as causes
use Rattle.line_protocol.specs.declared.fault.RequestFault.TheVariants as faults
use Rattle.line_protocol.specs.declared.request.Request.TheVariants as asks
use Rattle.line_protocol.specs.ReplyLine.{number_word, escaped_word}
use Rattle.line_protocol.specs.Requests.{Asked}
use Rattle.line_protocol.specs.Texts.{text, pair_line}
use Rattle.patience.specs.Patience.{MayTell}
use Rattle.session.specs.Plain.{scan_lines, plain_answer, plain_map, plain_from, IsLineStart, HasNoRefusal, BeginsPlain}
use Rattle.session.specs.Replies.{refusal_line, end_line, pair_lines, reply_lines}
use Rattle.map_model.specs.Parts.{pairs_in, pairs_of}
use Rattle.session.specs.Scans.{AreParts, is_done, MayBreak, EndsScan}
use Rattle.session.specs.Transcripts.{Exchange, IsAnswered, HasNoRoom, IsFull, IsRefused, IsScanned, IsTold, IsServedAs, AreServed, asked_of, entries_of, text_of}
use Rattle.session.proofs.Gaining.{begins_behind, begins_more, begins_then}
use Rattle.session.proofs.Scanning.{take_over, take_none}

-- Texts end in LF.
EndsInLf : List ℕ → Type 0
EndsInLf said = (line : List ℕ) × (said ≡ line ++ 10 ∷ [])

fault_ends : (fault : Fault) → (line : List ℕ) × (text (answers.Fault fault) ≡ line ++ 10 ∷ [])
fault_ends causes.Command = (codes "ERR 1 command" ++ [], refl)
fault_ends causes.Words = (codes "ERR 2 words" ++ [], refl)
fault_ends causes.Key = (codes "ERR 3 key" ++ [], refl)
fault_ends causes.Value = (codes "ERR 4 value" ++ [], refl)
fault_ends causes.Limit = (codes "ERR 5 limit" ++ [], refl)
fault_ends causes.Line = (codes "ERR 6 line" ++ [], refl)

end_ends : (front : List ℕ) (count : ℕ) → (line : List ℕ) × (front ++ end_line count ≡ line ++ 10 ∷ [])
end_ends front count = (front ++ (codes "END" ++ flat_map number_word (count ∷ [])), sym (append_assoc front (codes "END" ++ flat_map number_word (count ∷ [])) (10 ∷ [])))

reply_ends : (reply : calls.Reply) → (line : List ℕ) × (reply_lines reply ≡ line ++ 10 ∷ [])
reply_ends calls.New = (codes "NEW" ++ [], refl)
reply_ends calls.Set = (codes "SET" ++ [], refl)
reply_ends (calls.Value value) = (codes "VALUE" ++ flat_map escaped_word (value ∷ []), refl)
reply_ends calls.Absent = (codes "NONE" ++ [], refl)
reply_ends calls.Gone = (codes "GONE" ++ [], refl)
reply_ends (calls.Pairs pairs) = end_ends (pair_lines pairs) (length pairs)

pub start_behind : (front said : List ℕ) → IsLineStart front → IsLineStart said → IsLineStart (front ++ said)
start_behind front said start (inl none) = subst IsLineStart (sym (ap (λ w. front ++ w) none ∙ append-nil front)) start
start_behind front said start (inr lines) = inr (front ++ lines.0, ap (λ w. front ++ w) lines.1 ∙ sym (append_assoc front lines.0 (10 ∷ [])))

pairs_start : (pairs : Pairs (List ℕ)) → IsLineStart (pair_lines pairs)
pairs_start [] = inl refl
pairs_start (p ∷ pairs) = start_behind (pair_line p.0 p.1) (pair_lines pairs) (inr (codes "PAIR" ++ flat_map escaped_word (p.0 ∷ p.1 ∷ []), refl)) (pairs_start pairs)

-- What the parts of a scan leave of its range.
parts_split : (m : Pairs (List ℕ)) → IsMap m → (from to : Bound) (most : ℕ) (entries : List Entry) (last : Bound) → AreParts from to most entries last → IsLegalFrom m entries
    → (between m from to ≡ pairs_of entries ++ between m last to) × (map_from m entries ≡ m)
parts_split m up from to most [] last parts legal = (ap (λ b. between m b to) (sym parts), refl)
parts_split m up from to most (e ∷ entries) last parts legal =
    let upto = parts.0 in
    let same : calls.map_after m e.call ≡ m = ap (calls.map_after m) parts.1 in
    let reply : e.reply ≡ calls.Pairs (between m from upto) = legal.0 ∙ ap (calls.answer_of m) parts.1 in
    let rest = parts_split m up upto to (most - length (pairs_in e.reply)) entries last parts.5 (subst (λ k. IsLegalFrom k entries) same legal.1) in
    let le : bound_cmp from upto ≢ Greater = λ more. let no : Less ≡ Greater = sym parts.2 ∙ more in cc in (
      sym (between_split m up from upto to le parts.3) ∙ (ap (λ w. between m from upto ++ w) rest.0 ∙ (sym (append_assoc (between m from upto) (pairs_of entries) (between m last to)) ∙ ap (λ w. (w ++ pairs_of entries) ++ between m last to) (sym (ap pairs_in reply)))),
      ap (λ k. map_from k entries) same ∙ rest.1,
    )

-- a scan that is done leaves nothing that was wanted
none_wanted : (m : Pairs (List ℕ)) (last to : Bound) (most count : ℕ) → is_done last to most count ≡ true → take (most - count) (between m last to) ≡ []
none_wanted m last to most count done = by (bound_cmp last to) refl
  where
    used_up : bound_cmp last to ≢ Less → take (most - count) (between m last to) ≡ []
    used_up past = ap (take (most - count)) (between_none m last to past) ∙ take_none (most - count)

    by : (o : Ordering) → bound_cmp last to ≡ o → take (most - count) (between m last to) ≡ []
    by Less is =
        let none : (most - count == 0) ≡ true = sym (ap (λ o. not (is_lt o) || (most - count == 0)) is) ∙ done in
        ap (λ n. take n (between m last to)) (eqb-true _ _ none)
    by Equal is = used_up (λ less. let no : Less ≡ Equal = sym less ∙ is in cc)
    by Greater is = used_up (λ less. let no : Less ≡ Greater = sym less ∙ is in cc)

-- A piece has the plain answer.
pub record IsPlain (m : Pairs (List ℕ)) (asked : Asked) (x : Exchange) : Type 0 where
  pub text : x.text ≡ plain_answer m asked
  pub after : map_from m x.entries ≡ plain_map m asked
  pub start : IsLineStart x.text
  pub none : x.refused ≡ None

-- a put is asked for, and there is no room for it
abbrev pub LacksRoom : ℕ → (List Entry → Type 0) → List Entry → Asked → Type 0
LacksRoom lane fits seen asked = (key : List ℕ) × (value : List ℕ) × (asked ≡ Ok (Some (asks.Put key value))) × HasNoRoom lane true fits seen (calls.Put key value)

-- Or it tells a refusal, behind a beginning of that answer.
pub record TellsRefusal (lane : ℕ) (fits : List Entry → Type 0) (m : Pairs (List ℕ)) (seen : List Entry) (asked : Asked) (x : Exchange) : Type 0 where
  pub refusal : Refusal
  pub lead : List ℕ
  pub text : x.text ≡ lead ++ refusal_line refusal
  pub untold : (again : Cause) → refusal ≡ refusals.Again again → ⊥
  pub start : IsLineStart lead
  pub begins : IsPrefix lead (plain_answer m asked)
  pub full : IsFull refusal → LacksRoom lane fits seen asked

-- while alone, no other lane is told to be in the way
not_again : (limit : Option ℕ) (refusal : Refusal) → MayTell limit true refusal → (again : Cause) → refusal ≡ refusals.Again again → ⊥
not_again None (refusals.Again cause) may again is = may
not_again (Some limit) (refusals.Again cause) may again is = may refl
not_again limit (refusals.Full cause) may again is = cc
not_again limit refusals.NoMemory may again is = cc

no_break : (limit : Option ℕ) (refusal : Refusal) → MayBreak limit true refusal → (again : Cause) → refusal ≡ refusals.Again again → ⊥
no_break limit (refusals.Again cause) may again is = not_again limit (refusals.Again cause) may again is
no_break limit (refusals.Full cause) may again is = cc
no_break limit refusals.NoMemory may again is = cc

-- no part is refused for want of room
break_not_full : (limit : Option ℕ) (sole : Bool) (refusal : Refusal) → MayBreak limit sole refusal → IsFull refusal → ⊥
break_not_full limit sole (refusals.Again cause) may full = full
break_not_full limit sole (refusals.Full cause) may full = may
break_not_full limit sole refusals.NoMemory may full = full

module _ (limit : Option ℕ) (lane : ℕ) (fits : List Entry → Type 0) (m : Pairs (List ℕ)) (up : IsMap m) (seen : List Entry) (x : Exchange) (legal : IsLegalFrom m x.entries) where
  answered : (call : calls.Call) (asked : Asked) → plain_answer m asked ≡ reply_lines (calls.answer_of m call) → plain_map m asked ≡ calls.map_after m call → IsAnswered call x → IsPlain m asked x
  answered call asked answer after is =
      let one : IsLegalFrom m (is.entry ∷ []) = subst (IsLegalFrom m) is.only legal in
      let said : x.text ≡ reply_lines (calls.answer_of m call) = is.line ∙ ap reply_lines (one.0 ∙ ap (calls.answer_of m) is.called) in record {
        text = said ∙ sym answer;
        after = ap (map_from m) is.only ∙ (ap (calls.map_after m) is.called ∙ sym after);
        start = inr ((reply_ends (calls.answer_of m call)).0, said ∙ (reply_ends (calls.answer_of m call)).1);
        none = is.none;
      }

  refused : (call : calls.Call) (asked : Asked) → (HasNoRoom lane true fits seen call → LacksRoom lane fits seen asked) → IsRefused limit lane true fits seen call x → TellsRefusal lane fits m seen asked x
  refused call asked lacks is = record {
    refusal = is.refusal;
    lead = [];
    text = is.line;
    untold = not_again limit is.refusal is.may;
    start = inl refl;
    begins = (plain_answer m asked, refl);
    full = λ full. lacks (is.room full);
  }

  told : (said : List ℕ) (asked : Asked) → plain_answer m asked ≡ said → plain_map m asked ≡ m → IsLineStart said → IsTold said x → IsPlain m asked x
  told said asked answer after start is = record {
    text = is.line ∙ sym answer;
    after = ap (map_from m) is.none ∙ sym after;
    start = subst IsLineStart (sym is.line) start;
    none = is.untold;
  }

  scanned : (from to : Bound) (most : ℕ) → IsScanned limit true from to most x → IsPlain m (Ok (Some (asks.Scan from to most))) x ⊎ TellsRefusal lane fits m seen (Ok (Some (asks.Scan from to most))) x
  scanned from to most is = by (is_done is.last to most (length (pairs_of x.entries))) refl is.end
    where
      pairs : Pairs (List ℕ)
      pairs = pairs_of x.entries

      split : (between m from to ≡ pairs ++ between m is.last to) × (map_from m x.entries ≡ m)
      split = parts_split m up from to most x.entries is.last is.parts legal

      rest : Pairs (List ℕ)
      rest = take (most - length pairs) (between m is.last to)

      wanted : take most (between m from to) ≡ take most pairs ++ rest
      wanted = ap (take most) split.0 ∙ take_over most pairs (between m is.last to)

      count : ℕ
      count = length (take most pairs)

      by : (b : Bool) → is_done is.last to most (length pairs) ≡ b → EndsScan limit true b count is.line x.refused → IsPlain m (Ok (Some (asks.Scan from to most))) x ⊎ TellsRefusal lane fits m seen (Ok (Some (asks.Scan from to most))) x
      by true done end =
          let all : take most (between m from to) ≡ take most pairs = wanted ∙ (ap (λ w. take most pairs ++ w) (none_wanted m is.last to most (length pairs) done) ∙ append-nil (take most pairs)) in
          let said : x.text ≡ pair_lines (take most pairs) ++ end_line count = is.lines ∙ ap (λ w. pair_lines (take most pairs) ++ w) end.0 in
          inl (record {
            text = said ∙ ap (λ (w : Pairs (List ℕ)). pair_lines w ++ end_line (length w)) (sym all);
            after = split.1;
            start = inr ((end_ends (pair_lines (take most pairs)) count).0, said ∙ (end_ends (pair_lines (take most pairs)) count).1);
            none = end.1;
          })
      by false done end = inr (record {
        refusal = end.0;
        lead = pair_lines (take most pairs);
        text = is.lines ∙ ap (λ w. pair_lines (take most pairs) ++ w) end.2;
        untold = no_break limit end.0 end.1;
        start = pairs_start (take most pairs);
        begins = begins_more (pair_lines (take most pairs)) (pair_lines (take most (between m from to))) (end_line (length (take most (between m from to))))
            (pair_lines rest, sym (flat_map-append (λ (p : List ℕ × List ℕ). pair_line p.0 p.1) (take most pairs) rest) ∙ ap pair_lines (sym wanted));
        full = λ full. absurd (break_not_full limit true end.0 end.1 full);
      })

  pub piece_cases : (asked : Asked) → IsServedAs limit lane true fits seen x asked → IsPlain m asked x ⊎ TellsRefusal lane fits m seen asked x
  piece_cases (Ok None) is = inl (told [] (Ok None) refl refl (inl refl) is)
  piece_cases (Ok (Some (asks.Put key value))) (inl is) = inl (answered (calls.Put key value) (Ok (Some (asks.Put key value))) refl refl is)
  piece_cases (Ok (Some (asks.Put key value))) (inr is) = inr (refused (calls.Put key value) (Ok (Some (asks.Put key value))) (λ room. (key, value, refl, room)) is)
  piece_cases (Ok (Some (asks.Get key))) (inl is) = inl (answered (calls.Get key) (Ok (Some (asks.Get key))) refl refl is)
  piece_cases (Ok (Some (asks.Get key))) (inr is) = inr (refused (calls.Get key) (Ok (Some (asks.Get key))) (λ room. absurd room) is)
  piece_cases (Ok (Some (asks.Del key))) (inl is) = inl (answered (calls.Del key) (Ok (Some (asks.Del key))) refl refl is)
  piece_cases (Ok (Some (asks.Del key))) (inr is) = inr (refused (calls.Del key) (Ok (Some (asks.Del key))) (λ room. absurd room) is)
  piece_cases (Ok (Some (asks.Scan from to most))) is = scanned from to most is
  piece_cases (Ok (Some asks.Quit)) is = inl (told (text answers.Bye) (Ok (Some asks.Quit)) refl refl (inr (codes "BYE" ++ [], refl)) is)
  piece_cases (Err (faults.Fault fault)) is = inl (told (text (answers.Fault fault)) (Err (faults.Fault fault)) refl refl (inr (fault_ends fault)) is)
  piece_cases (Err faults.NoMemory) is = absurd is

-- a refusal's line at the start of a line is seen
seen_refusal : (refusal : Refusal) → ((again : Cause) → refusal ≡ refusals.Again again → ⊥) → (front rest : List ℕ) → IsLineStart front → HasNoRefusal (front ++ (refusal_line refusal ++ rest)) → ⊥
seen_refusal (refusals.Again cause) untold front rest start none = untold cause refl
seen_refusal (refusals.Full (fulls.Values drawn cap)) untold front rest start none =
    let line = codes " values" ++ flat_map number_word (drawn ∷ cap ∷ []) in
    none.full (front, line, rest, start, ap (λ w. front ++ (codes "FULL" ++ w)) (append_assoc line (10 ∷ []) rest))
seen_refusal (refusals.Full (fulls.Crowded count hard why)) untold front rest start none =
    let line = codes " crowded" ++ flat_map number_word (count ∷ hard ∷ []) in
    none.full (front, line, rest, start, ap (λ w. front ++ (codes "FULL" ++ w)) (append_assoc line (10 ∷ []) rest))
seen_refusal refusals.NoMemory untold front rest start none = none.no_memory (front, [], rest, start, refl)

refusal_ends : (refusal : Refusal) → ((again : Cause) → refusal ≡ refusals.Again again → ⊥) → (line : List ℕ) × (refusal_line refusal ≡ line ++ 10 ∷ [])
refusal_ends (refusals.Again cause) untold = absurd (untold cause refl)
refusal_ends (refusals.Full (fulls.Values drawn cap)) untold = (codes "FULL values" ++ flat_map number_word (drawn ∷ cap ∷ []), refl)
refusal_ends (refusals.Full (fulls.Crowded count hard why)) untold = (codes "FULL crowded" ++ flat_map number_word (count ∷ hard ∷ []), refl)
refusal_ends refusals.NoMemory untold = (codes "NOMEM" ++ [], refl)

-- a first part of two texts is one of the first text, or that text and a first part of the second
pub prefix_cases : (w a b : List ℕ) → IsPrefix w (a ++ b) → IsPrefix w a ⊎ ((rest : List ℕ) × (w ≡ a ++ rest) × IsPrefix rest b)
prefix_cases [] a b begins = inl (a, refl)
prefix_cases (x ∷ w) [] b begins = inr (x ∷ w, refl, begins)
prefix_cases (x ∷ w) (y ∷ a) b begins =
    let whole : x ∷ (w ++ begins.0) ≡ y ∷ (a ++ b) = begins.1 in
    let head : x ≡ y = cc in
    let tail : w ++ begins.0 ≡ a ++ b = cc in
    elim (prefix_cases w a b (begins.0, tail)) [
      | inl front ↦ inl (front.0, ap (λ l. x ∷ l) front.1 ∙ ap (λ h. h ∷ a) head)
      | inr more ↦ inr (more.0, ap (λ l. x ∷ l) more.1 ∙ ap (λ h. h ∷ (a ++ more.0)) head, more.2)
    ]

-- behind a plain piece
plain_behind : (said written plain : List ℕ) → IsLineStart said → BeginsPlain written plain → BeginsPlain (said ++ written) (said ++ plain)
plain_behind said written plain start (inl begins) = inl (begins_behind said written plain begins)
plain_behind said written plain start (inr torn) =
    inr (said ++ torn.0, torn.1, ap (λ w. said ++ w) torn.2 ∙ sym (append_assoc said torn.0 torn.1), start_behind said torn.0 start torn.3, begins_behind said torn.0 plain torn.4, torn.5)

plain_more : (written plain more : List ℕ) → BeginsPlain written plain → BeginsPlain written (plain ++ more)
plain_more written plain more (inl begins) = inl (begins_more written plain more begins)
plain_more written plain more (inr torn) = inr (torn.0, torn.1, torn.2, torn.3, begins_more torn.0 plain more torn.4, torn.5)

-- of one LF all is a first part, or nothing
pub lf_cases : (last : List ℕ) → IsPrefix last (10 ∷ []) → (last ≡ []) ⊎ (last ≡ 10 ∷ [])
lf_cases [] begins = inl refl
lf_cases (y ∷ []) begins =
    let whole : y ∷ begins.0 ≡ 10 ∷ [] = begins.1 in
    let head : y ≡ 10 = cc in
    inr (ap (λ h. h ∷ []) head)
lf_cases (y ∷ z ∷ last) begins = let whole : y ∷ (z ∷ (last ++ begins.0)) ≡ 10 ∷ [] = begins.1 in absurd cc

-- what was written of a piece that tells a refusal
torn_piece : (refusal : Refusal) (untold : (again : Cause) → refusal ≡ refusals.Again again → ⊥) (front lead rest written plain : List ℕ) → IsLineStart front → IsLineStart lead → IsPrefix lead plain → HasNoRefusal (front ++ written)
    → IsPrefix written (lead ++ (refusal_line refusal ++ rest)) → BeginsPlain written plain
torn_piece refusal untold front lead rest written plain start lead_start begins none cut = elim (prefix_cases written lead (refusal_line refusal ++ rest) cut) [
  | inl inside ↦ inl (begins_then written lead plain inside begins)
  | inr behind ↦
      let line = refusal_ends refusal untold in
      let seen : (back : List ℕ) → behind.0 ≡ refusal_line refusal ++ back → ⊥ = λ back is.
      seen_refusal refusal untold (front ++ lead) back (start_behind front lead start lead_start)
      (subst HasNoRefusal (ap (λ w. front ++ w) behind.1 ∙ (ap (λ w. front ++ (lead ++ w)) is ∙ sym (append_assoc front lead (refusal_line refusal ++ back)))) none) in
      let torn : IsPrefix behind.0 line.0 → BeginsPlain written plain = λ p. inr (lead, behind.0, behind.1, lead_start, begins, (refusal, line.0, line.1, untold, p)) in
      elim (prefix_cases behind.0 (refusal_line refusal) rest behind.2) [
        | inl inside ↦ elim (prefix_cases behind.0 line.0 (10 ∷ []) (inside.0, inside.1 ∙ line.1)) [
          | inl p ↦ torn p
          | inr over ↦ elim (lf_cases over.0 over.2) [
            | inl last ↦ torn ([], append-nil behind.0 ∙ (over.1 ∙ (ap (λ w. line.0 ++ w) last ∙ append-nil line.0)))
            | inr last ↦ absurd (seen [] (over.1 ∙ (ap (λ w. line.0 ++ w) last ∙ (sym line.1 ∙ sym (append-nil (refusal_line refusal))))))
          ]
        ]
        | inr over ↦ absurd (seen over.0 over.1)
      ]
]

module _ (limit : Option ℕ) (lane : ℕ) (fits : List Entry → Type 0) where
  -- what was written of pieces
  pub plain_begins : (pieces : List Exchange) (m : Pairs (List ℕ)) (seen : List Entry) (front written : List ℕ) → IsMap m → AreServed limit lane true fits seen pieces → IsLegalFrom m (entries_of pieces) → IsLineStart front → HasNoRefusal (front ++ written)
      → IsPrefix written (text_of pieces) → BeginsPlain written (plain_from m (asked_of pieces))
  plain_begins [] m seen front written up each legal start none begins = inl begins
  plain_begins (x ∷ pieces) m seen front written up each legal start none begins =
      let parts = legal-parts m x.entries (entries_of pieces) legal in
      let plain = plain_from (plain_map m x.asked) (asked_of pieces) in
      elim (piece_cases limit lane fits m up seen x parts.0 x.asked each.0) [
        | inl is ↦ elim (prefix_cases written x.text (text_of pieces) begins) [
          | inl inside ↦ inl (begins_more written (plain_answer m x.asked) plain (inside.0, inside.1 ∙ is.text))
          | inr behind ↦
              let rest = plain_begins pieces (map_from m x.entries) (seen ++ x.entries) (front ++ x.text) behind.0 (ascending_from m x.entries up) each.1 parts.1 (start_behind front x.text start is.start)
              (subst HasNoRefusal (ap (λ w. front ++ w) behind.1 ∙ sym (append_assoc front x.text behind.0)) none) behind.2 in
              subst (λ w. BeginsPlain w (plain_answer m x.asked ++ plain)) (sym behind.1) (subst (λ w. BeginsPlain (x.text ++ behind.0) (w ++ plain)) is.text
              (plain_behind x.text behind.0 plain is.start (subst (λ k. BeginsPlain behind.0 (plain_from k (asked_of pieces))) is.after rest)))
        ]
        | inr is ↦ plain_more written (plain_answer m x.asked) plain (torn_piece is.refusal is.untold front is.lead (text_of pieces) written (plain_answer m x.asked) start is.start is.begins none
            (subst (IsPrefix written) (ap (λ w. w ++ text_of pieces) is.text ∙ append_assoc is.lead (refusal_line is.refusal) (text_of pieces)) begins))
      ]

  -- the whole text of pieces
  pub plain_whole : (pieces : List Exchange) (m : Pairs (List ℕ)) (seen : List Entry) (front : List ℕ) → IsMap m → AreServed limit lane true fits seen pieces → IsLegalFrom m (entries_of pieces) → IsLineStart front → HasNoRefusal (front ++ text_of pieces)
      → text_of pieces ≡ plain_from m (asked_of pieces)
  plain_whole [] m seen front up each legal start none = refl
  plain_whole (x ∷ pieces) m seen front up each legal start none =
      let parts = legal-parts m x.entries (entries_of pieces) legal in
      elim (piece_cases limit lane fits m up seen x parts.0 x.asked each.0) [
        | inl is ↦
            let rest = plain_whole pieces (map_from m x.entries) (seen ++ x.entries) (front ++ x.text) (ascending_from m x.entries up) each.1 parts.1 (start_behind front x.text start is.start)
            (subst HasNoRefusal (sym (append_assoc front x.text (text_of pieces))) none) in
            ap (λ w. w ++ text_of pieces) is.text ∙ ap (λ w. plain_answer m x.asked ++ w) (rest ∙ ap (λ k. plain_from k (asked_of pieces)) is.after)
        | inr is ↦ absurd (seen_refusal is.refusal is.untold (front ++ is.lead) (text_of pieces) (start_behind front is.lead start is.start)
            (subst HasNoRefusal (ap (λ w. front ++ (w ++ text_of pieces)) is.text ∙ (ap (λ w. front ++ w) (append_assoc is.lead (refusal_line is.refusal) (text_of pieces)) ∙ sym (append_assoc front is.lead (refusal_line is.refusal ++ text_of pieces)))) none))
      ]

-- the answers to more lines go on from the answers to the first ones
plain_goes_on : (m : Pairs (List ℕ)) (xs ys : List Asked) → (more : List ℕ) × (plain_from m (xs ++ ys) ≡ plain_from m xs ++ more)
plain_goes_on m [] ys = (plain_from m ys, refl)
plain_goes_on m (x ∷ xs) ys =
    let rest = plain_goes_on (plain_map m x) xs ys in
    (rest.0, ap (λ w. plain_answer m x ++ w) rest.1 ∙ sym (append_assoc (plain_answer m x) (plain_from (plain_map m x) xs) rest.0))

pub plain_prefix : (m : Pairs (List ℕ)) (xs all : List Asked) (written : List ℕ) → IsPrefix xs all → BeginsPlain written (plain_from m xs) → BeginsPlain written (plain_from m all)
plain_prefix m xs all written begins plain =
    let rest = plain_goes_on m xs begins.0 in
    subst (λ w. BeginsPlain written (plain_from m w)) begins.1 (subst (BeginsPlain written) (sym rest.1) (plain_more written (plain_from m xs) rest.0 plain))

-- a range whose ends aren't in order has no pairs
pub scan_lines-none : (m : Pairs (List ℕ)) (from to : Bound) (most : ℕ) → bound_cmp from to ≢ Less → scan_lines m from to most ≡ end_line 0
scan_lines-none m from to most past = ap (λ (pairs : Pairs (List ℕ)). pair_lines pairs ++ end_line (length pairs)) (ap (take most) (between_none m from to past) ∙ take_none most)
