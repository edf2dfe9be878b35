-- No line begins as FULL does but that of want of room.
use Rattle.std.proofs.Common.{◌≡◌, ◌≢◌, ◌⊎◌, inl, inr, ℕ, List, [], ◌∷◌, ◌++◌, length, All, Bool, true, false, not, ◌&&◌, eqb, codes, refl, sym, ap, ◌∙◌, subst, append_assoc, arith, Option, Some, None, Ok, Err}
use Rattle.std.proofs.lemmas.Bool.{ne_eqb}
use Rattle.std.proofs.lemmas.List.{append-nil}
use Rattle.std.proofs.lemmas.List.Elements.{All-tail}
use mathlib.Core.List.{IsPrefix}
use Rattle.map_model.specs.Maps.{Pairs}
use Rattle.map_model.specs.Calls as calls
use Rattle.map_model.specs.History.{Entry}
use Rattle.map_model.specs.declared.refusal.Refusal.{Refusal}
use Rattle.map_model.specs.declared.refusal.Refusal.TheVariants as refusals
use Rattle.map_model.specs.declared.refusal.Again.{Again as Cause}
use Rattle.map_model.specs.declared.refusal.Again.TheVariants as agains
use Rattle.line_protocol.specs.declared.answer.Answer.TheVariants as answers
use Rattle.line_protocol.specs.declared.fault.Fault.{Fault}
use Rattle.line_protocol.specs.declared.fault.Fault.TheVariants as causes
use Rattle.line_protocol.specs.declared.fault.RequestFault.TheVariants as faults
use Rattle.line_protocol.specs.declared.request.Request.TheVariants as asks
use Rattle.line_protocol.specs.Requests.{Asked}
use Rattle.line_protocol.specs.ReplyLine.{IsOneLine}
use Rattle.line_protocol.specs.Texts.{text, pair_line}
use Rattle.line_protocol.proofs.OneLine.{text_one_line, pair_one_line}
use Rattle.session.specs.Plain.{IsLineStart, HasLine}
use Rattle.session.specs.Replies.{refusal_line, end_line, pair_lines, reply_lines}
use Rattle.session.specs.Scans.{MayBreak, EndsScan}
use Rattle.session.specs.Transcripts.{Exchange, IsFull, IsAnswered, IsRefused, IsServedAs}

-- no line begins with the first letter of FULL: neither the one that is open, if it is at its start, nor any behind it
abbrev is_free : Bool → List ℕ → Bool
is_free at_start [] = true
is_free true (b ∷ bytes) = not (eqb b 70) && is_free (eqb b 10) bytes
is_free false (b ∷ bytes) = is_free (eqb b 10) bytes

-- whole lines, none of which begins so
pub record IsFree (said : List ℕ) : Type 0 where
  pub behind : (more : List ℕ) → is_free true (said ++ more) ≡ is_free true more

pub free_none : IsFree []
free_none = record { behind = λ more. refl }

pub free-append : (xs ys : List ℕ) → IsFree xs → IsFree ys → IsFree (xs ++ ys)
free-append xs ys first second = record { behind = λ more. ap (is_free true) (append_assoc xs ys more) ∙ (first.behind (ys ++ more) ∙ second.behind more) }

-- up to the end of the open line
free_open : (line more : List ℕ) → All (λ b. b ≢ 10) line → is_free false (line ++ 10 ∷ more) ≡ is_free true more
free_open [] more none = refl
free_open (b ∷ line) more none = ap (λ t. is_free t (line ++ 10 ∷ more)) (ne_eqb b 10 (none 0 0 (omega arith))) ∙ free_open line more (All-tail (λ b. b ≢ 10) b line none)

abbrev begins_so : List ℕ → Bool
begins_so [] = false
begins_so (b ∷ line) = eqb b 70

free_line : (said : List ℕ) → IsOneLine said → begins_so said ≡ false → IsFree said
free_line said one other = subst IsFree (sym one.1) (by one.0 one.2 (subst (λ w. begins_so w ≡ false) one.1 other))
  where
    by : (line : List ℕ) → All (λ b. b ≢ 10) line → begins_so (line ++ 10 ∷ []) ≡ false → IsFree (line ++ 10 ∷ [])
    by [] none other = record { behind = λ more. refl }
    by (b ∷ line) none other = record {
      behind = λ more. ap (λ t. not t && is_free (eqb b 10) ((line ++ 10 ∷ []) ++ more)) other ∙ (ap (λ t. is_free t ((line ++ 10 ∷ []) ++ more)) (ne_eqb b 10 (none 0 0 (omega arith)))
          ∙ (ap (is_free false) (append_assoc line (10 ∷ []) more) ∙ free_open line more (All-tail (λ b. b ≢ 10) b line none)));
    }

free_fault : (fault : Fault) → IsFree (text (answers.Fault fault))
free_fault causes.Command = free_line _ (text_one_line (answers.Fault causes.Command)) refl
free_fault causes.Words = free_line _ (text_one_line (answers.Fault causes.Words)) refl
free_fault causes.Key = free_line _ (text_one_line (answers.Fault causes.Key)) refl
free_fault causes.Value = free_line _ (text_one_line (answers.Fault causes.Value)) refl
free_fault causes.Limit = free_line _ (text_one_line (answers.Fault causes.Limit)) refl
free_fault causes.Line = free_line _ (text_one_line (answers.Fault causes.Line)) refl

free_again : (cause : Cause) → IsFree (text (answers.Again cause))
free_again (agains.Locked leaf holder) = free_line _ (text_one_line (answers.Again (agains.Locked leaf holder))) refl
free_again (agains.Changed leaf before after) = free_line _ (text_one_line (answers.Again (agains.Changed leaf before after))) refl
free_again (agains.Stale leaf expected searched) = free_line _ (text_one_line (answers.Again (agains.Stale leaf expected searched))) refl
free_again (agains.Moved first second) = free_line _ (text_one_line (answers.Again (agains.Moved first second))) refl
free_again (agains.Turn holder) = free_line _ (text_one_line (answers.Again (agains.Turn holder))) refl
free_again (agains.Pinned table pins) = free_line _ (text_one_line (answers.Again (agains.Pinned table pins))) refl
free_again (agains.Bin holder) = free_line _ (text_one_line (answers.Again (agains.Bin holder))) refl
free_again (agains.Filled leaf count hard) = free_line _ (text_one_line (answers.Again (agains.Filled leaf count hard))) refl

free_refusal : (refusal : Refusal) → (IsFull refusal → ⊥) → IsFree (refusal_line refusal)
free_refusal (refusals.Again cause) none = free_again cause
free_refusal (refusals.Full cause) none = absurd (none tt)
free_refusal refusals.NoMemory none = free_line _ (text_one_line answers.NoMemory) refl

free_pairs : (pairs : Pairs (List ℕ)) → IsFree (pair_lines pairs)
free_pairs [] = free_none
free_pairs (p ∷ pairs) = free-append (pair_line p.0 p.1) (pair_lines pairs) (free_line _ (pair_one_line p.0 p.1) refl) (free_pairs pairs)

free_end : (count : ℕ) → IsFree (end_line count)
free_end count = free_line _ (text_one_line (answers.End count)) refl

free_reply : (reply : calls.Reply) → IsFree (reply_lines reply)
free_reply calls.New = free_line _ (text_one_line answers.New) refl
free_reply calls.Set = free_line _ (text_one_line answers.Set) refl
free_reply (calls.Value value) = free_line _ (text_one_line (answers.Value (record { ref_ptr = (0, 0); now = value }))) refl
free_reply calls.Absent = free_line _ (text_one_line answers.Absent) refl
free_reply calls.Gone = free_line _ (text_one_line answers.Gone) refl
free_reply (calls.Pairs pairs) = free-append (pair_lines pairs) (end_line (length pairs)) (free_pairs pairs) (free_end (length pairs))

free_break : (limit : Option ℕ) (sole : Bool) (refusal : Refusal) → MayBreak limit sole refusal → IsFree (refusal_line refusal)
free_break limit sole (refusals.Again cause) may = free_again cause
free_break limit sole (refusals.Full cause) may = absurd may
free_break limit sole refusals.NoMemory may = free_refusal refusals.NoMemory (λ full. full)

free_scan_end : (limit : Option ℕ) (sole done : Bool) (count : ℕ) (line : List ℕ) (refused : Option Refusal) → EndsScan limit sole done count line refused → IsFree line
free_scan_end limit sole true count line refused ends = subst IsFree (sym ends.0) (free_end count)
free_scan_end limit sole false count line refused ends = subst IsFree (sym ends.2) (free_break limit sole ends.0 ends.1)

module _ (limit : Option ℕ) (lane : ℕ) (sole : Bool) (fits : List Entry → Type 0) (seen : List Entry) (x : Exchange) where
  free_call : (call : calls.Call) → ((is : IsRefused limit lane sole fits seen call x) → IsFull is.refusal → ⊥) → IsAnswered call x ⊎ IsRefused limit lane sole fits seen call x → IsFree x.text
  free_call call none (inl is) = subst IsFree (sym is.line) (free_reply is.entry.reply)
  free_call call none (inr is) = subst IsFree (sym is.line) (free_refusal is.refusal (none is))

  -- a piece, if it is no put that lacks room
  pub free_piece : (asked : Asked) → ((key value : List ℕ) → asked ≡ Ok (Some (asks.Put key value)) → (is : IsRefused limit lane sole fits seen (calls.Put key value) x) → IsFull is.refusal → ⊥) → IsServedAs limit lane sole fits seen x asked → IsFree x.text
  free_piece (Ok None) none is = subst IsFree (sym is.line) free_none
  free_piece (Ok (Some (asks.Put key value))) none is = free_call (calls.Put key value) (none key value refl) is
  free_piece (Ok (Some (asks.Get key))) none is = free_call (calls.Get key) (λ is full. is.room full) is
  free_piece (Ok (Some (asks.Del key))) none is = free_call (calls.Del key) (λ is full. is.room full) is
  free_piece (Ok (Some (asks.Scan from to most))) none is = subst IsFree (sym is.lines) (free-append _ is.line (free_pairs _) (free_scan_end limit sole _ _ is.line x.refused is.end))
  free_piece (Ok (Some asks.Quit)) none is = subst IsFree (sym is.line) (free_line _ (text_one_line answers.Bye) refl)
  free_piece (Err (faults.Fault fault)) none is = subst IsFree (sym is.line) (free_fault fault)
  free_piece (Err faults.NoMemory) none is = absurd is

-- So there is no line of want of room.
and_no : (t : Bool) → (t && false) ≡ false
and_no true = refl
and_no false = refl

not_free : (at_start : Bool) (lines more : List ℕ) → is_free at_start (lines ++ 10 ∷ 70 ∷ more) ≡ false
not_free true [] more = refl
not_free false [] more = refl
not_free true (b ∷ lines) more = ap (λ t. not (eqb b 70) && t) (not_free (eqb b 10) lines more) ∙ and_no (not (eqb b 70))
not_free false (b ∷ lines) more = not_free (eqb b 10) lines more

started : (front more : List ℕ) → IsLineStart front → is_free true (front ++ 70 ∷ more) ≡ false
started front more (inl none) = ap (λ w. is_free true (w ++ 70 ∷ more)) none
started front more (inr lines) = ap (λ w. is_free true (w ++ 70 ∷ more)) lines.1 ∙ (ap (is_free true) (append_assoc lines.0 (10 ∷ []) (70 ∷ more)) ∙ not_free true lines.0 more)

pub free_not_full : (said : List ℕ) → IsFree said → HasLine (codes "FULL") said → ⊥
free_not_full said free line =
    let free_all : is_free true said ≡ true = ap (is_free true) (sym (append-nil said)) ∙ free.behind [] in
    let not_all : is_free true said ≡ false = ap (is_free true) line.4 ∙ started line.0 (codes "ULL" ++ (line.1 ++ 10 ∷ line.2)) line.3 in
    let no : true ≡ false = sym free_all ∙ not_all in cc

-- a line of some first bytes is one of all
pub line_begins : (word some all : List ℕ) → IsPrefix some all → HasLine word some → HasLine word all
line_begins word some all begins line =
    let back = begins.0 in (
      line.0,
      line.1,
      line.2 ++ back,
      line.3,
      sym begins.1 ∙ (ap (λ w. w ++ back) line.4 ∙ (append_assoc line.0 (word ++ (line.1 ++ 10 ∷ line.2)) back ∙ ap (λ w. line.0 ++ w) (append_assoc word (line.1 ++ 10 ∷ line.2) back ∙ ap (λ w. word ++ w) (append_assoc line.1 (10 ∷ line.2) back)))),
    )
