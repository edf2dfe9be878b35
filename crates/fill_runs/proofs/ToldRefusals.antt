-- A line of an output that begins with the word of a refusal has it for its first word, so where none is counted there is none.
use Rattle.std.proofs.Common.{◌≡◌, ◌≢◌, ◌⊎◌, inl, inr, ℕ, ◌+◌, List, [], ◌∷◌, ◌++◌, length, All, Bool, true, false, not, ◌&&◌, ◌||◌, cond, eqb, codes, refl, sym, ap, ◌∙◌, subst, append_assoc, arith, Option, Some, None, Ok, Err}
use Rattle.std.specs.List.{list_all, flat_map, count_by}
use Rattle.std.proofs.lemmas.Bool.{ne_eqb}
use Rattle.std.proofs.lemmas.List.{append-nil}
use Rattle.std.proofs.lemmas.List.Sums.{sum_by-append}
use Rattle.std.proofs.lemmas.List.Elements.{All-tail}
use Rattle.map_model.specs.Maps.{Pairs}
use Rattle.map_model.specs.Calls as calls
use Rattle.map_model.specs.History.{Entry}
use Rattle.map_model.specs.declared.refusal.Refusal.{Refusal}
use Rattle.map_model.specs.declared.refusal.Refusal.TheVariants as refusals
use Rattle.map_model.specs.declared.refusal.Again.TheVariants as agains
use Rattle.map_model.specs.declared.refusal.Full.TheVariants as fulls
use Rattle.line_protocol.specs.declared.answer.Answer.{Answer}
use Rattle.line_protocol.specs.declared.answer.Answer.TheVariants as answers
use Rattle.line_protocol.specs.declared.fault.Fault.TheVariants as causes
use Rattle.line_protocol.specs.declared.fault.RequestFault.TheVariants as faults
use Rattle.line_protocol.specs.declared.request.Request.TheVariants as asks
use Rattle.line_protocol.specs.Requests.{Asked}
use Rattle.line_protocol.specs.ReplyLine.{IsOneLine, number_word, escaped_word}
use Rattle.line_protocol.specs.Texts.{text, pair_line}
use Rattle.line_protocol.proofs.OneLine.{text_one_line, pair_one_line}
use Rattle.session.specs.Plain.{IsLineStart, HasLine, HasNoRefusal}
use Rattle.session.specs.Replies.{refusal_line, end_line, pair_lines, reply_lines}
use Rattle.session.specs.Scans.{EndsScan}
use Rattle.session.specs.Transcripts.{Exchange, IsAnswered, IsRefused, IsServedAs, AreServed, text_of, IsTranscript}
use Rattle.line_reader.specs.Cut.{open_part}
use Rattle.line_reader.proofs.Cutting.{open_part-append}
use Rattle.fill_runs.specs.Summary.{lines_behind, has_word, counted}
use Rattle.fill_runs.proofs.Counting.{lines_behind-append}

-- the line begins with these bytes
abbrev begins : List ℕ → List ℕ → Bool
begins [] line = true
begins (b ∷ word) [] = false
begins (b ∷ word) (c ∷ line) = eqb b c && begins word line

-- where it begins with the word of a refusal, that is its first word
abbrev sound : List ℕ → Bool
sound line = (not (begins (codes "FULL") line) || has_word (codes "FULL") line) && (not (begins (codes "NOMEM") line) || has_word (codes "NOMEM") line)

-- whole lines of which that holds
record AreSound (said : List ℕ) : Type 0 where
  all : list_all sound (lines_behind [] said) ≡ true
  none : open_part [] said ≡ []

list_all-both : (xs ys : List (List ℕ)) → list_all sound xs ≡ true → list_all sound ys ≡ true → list_all sound (xs ++ ys) ≡ true
list_all-both [] ys first second = second
list_all-both (x ∷ xs) ys first second =
    (elim (sound x) as (λ t. (t && list_all sound xs) ≡ true → (t && list_all sound (xs ++ ys)) ≡ true) [ true ↦ λ rest. list_all-both xs ys rest second | false ↦ λ no. no ]) first

sound-append : (xs ys : List ℕ) → AreSound xs → AreSound ys → AreSound (xs ++ ys)
sound-append xs ys first second = record {
  all = ap (list_all sound) (lines_behind-append [] xs ys ∙ ap (λ s. lines_behind [] xs ++ lines_behind s ys) first.none) ∙ list_all-both (lines_behind [] xs) (lines_behind [] ys) first.all second.all;
  none = open_part-append [] xs ys ∙ (ap (λ s. open_part s ys) first.none ∙ second.none);
}

-- bytes without LF end no line
open_line : (start front : List ℕ) → All (λ b. b ≢ 10) front → (lines_behind start front ≡ []) × (open_part start front ≡ start ++ front)
open_line start [] none = (refl, sym (append-nil start))
open_line start (b ∷ front) none =
    let other : eqb b 10 ≡ false = ne_eqb b 10 (none 0 0 (omega arith)) in
    let later = open_line (start ++ b ∷ []) front (All-tail (λ b. b ≢ 10) b front none) in (
      ap (λ t. cond t (start ∷ lines_behind [] front) (lines_behind (start ++ b ∷ []) front)) other ∙ later.0,
      ap (λ t. cond t (open_part [] front) (open_part (start ++ b ∷ []) front)) other ∙ (later.1 ∙ append_assoc start (b ∷ []) front),
    )

-- without the last byte
init : List ℕ → List ℕ
init [] = []
init (x ∷ []) = []
init (x ∷ y ∷ l) = x ∷ init (y ∷ l)

init_last : (xs : List ℕ) (x : ℕ) → init (xs ++ x ∷ []) ≡ xs
unfolding init
init_last [] x = refl
init_last (y ∷ []) x = refl
init_last (y ∷ z ∷ xs) x = ap (λ l. y ∷ l) (init_last (z ∷ xs) x)

-- one line
sound_line : (front : List ℕ) → sound front ≡ true → IsOneLine (front ++ 10 ∷ []) → AreSound (front ++ 10 ∷ [])
sound_line front is one =
    let same : one.0 ≡ front = sym (init_last one.0 10) ∙ (ap init (sym one.1) ∙ init_last front 10) in
    let bare = open_line [] front (subst (All (λ b. b ≢ 10)) same one.2) in record {
      all = ap (list_all sound) (lines_behind-append [] front (10 ∷ []) ∙ (ap (λ ls. ls ++ open_part [] front ∷ []) bare.0 ∙ ap (λ s. s ∷ []) bare.1)) ∙ ap (λ t. t && true) is;
      none = open_part-append [] front (10 ∷ []);
    }

sound_answer : (answer : Answer) → AreSound (text answer)
sound_answer answers.New = sound_line (codes "NEW" ++ []) refl (text_one_line answers.New)
sound_answer answers.Set = sound_line (codes "SET" ++ []) refl (text_one_line answers.Set)
sound_answer (answers.Value value) = sound_line (codes "VALUE" ++ flat_map escaped_word (value.now ∷ [])) refl (text_one_line (answers.Value value))
sound_answer answers.Absent = sound_line (codes "NONE" ++ []) refl (text_one_line answers.Absent)
sound_answer answers.Gone = sound_line (codes "GONE" ++ []) refl (text_one_line answers.Gone)
sound_answer (answers.End count) = sound_line (codes "END" ++ flat_map number_word (count ∷ [])) refl (text_one_line (answers.End count))
sound_answer answers.Bye = sound_line (codes "BYE" ++ []) refl (text_one_line answers.Bye)
sound_answer (answers.Fault causes.Command) = sound_line (codes "ERR 1 command" ++ []) refl (text_one_line (answers.Fault causes.Command))
sound_answer (answers.Fault causes.Words) = sound_line (codes "ERR 2 words" ++ []) refl (text_one_line (answers.Fault causes.Words))
sound_answer (answers.Fault causes.Key) = sound_line (codes "ERR 3 key" ++ []) refl (text_one_line (answers.Fault causes.Key))
sound_answer (answers.Fault causes.Value) = sound_line (codes "ERR 4 value" ++ []) refl (text_one_line (answers.Fault causes.Value))
sound_answer (answers.Fault causes.Limit) = sound_line (codes "ERR 5 limit" ++ []) refl (text_one_line (answers.Fault causes.Limit))
sound_answer (answers.Fault causes.Line) = sound_line (codes "ERR 6 line" ++ []) refl (text_one_line (answers.Fault causes.Line))
sound_answer (answers.Full (fulls.Values drawn cap)) = sound_line (codes "FULL values" ++ flat_map number_word (drawn ∷ cap ∷ [])) refl (text_one_line (answers.Full (fulls.Values drawn cap)))
sound_answer (answers.Full (fulls.Crowded count hard why)) = sound_line (codes "FULL crowded" ++ flat_map number_word (count ∷ hard ∷ [])) refl (text_one_line (answers.Full (fulls.Crowded count hard why)))
sound_answer (answers.Again (agains.Locked leaf holder)) = sound_line (codes "AGAIN locked" ++ flat_map number_word (leaf ∷ holder ∷ [])) refl (text_one_line (answers.Again (agains.Locked leaf holder)))
sound_answer (answers.Again (agains.Changed leaf before after)) = sound_line (codes "AGAIN changed" ++ flat_map number_word (leaf ∷ before ∷ after ∷ [])) refl (text_one_line (answers.Again (agains.Changed leaf before after)))
sound_answer (answers.Again (agains.Stale leaf expected searched)) = sound_line (codes "AGAIN stale" ++ flat_map number_word (leaf ∷ expected ∷ searched ∷ [])) refl (text_one_line (answers.Again (agains.Stale leaf expected searched)))
sound_answer (answers.Again (agains.Moved first second)) = sound_line (codes "AGAIN moved" ++ flat_map number_word (first ∷ second ∷ [])) refl (text_one_line (answers.Again (agains.Moved first second)))
sound_answer (answers.Again (agains.Turn holder)) = sound_line (codes "AGAIN turn" ++ flat_map number_word (holder ∷ [])) refl (text_one_line (answers.Again (agains.Turn holder)))
sound_answer (answers.Again (agains.Pinned table pins)) = sound_line (codes "AGAIN pinned" ++ flat_map number_word (table ∷ pins ∷ [])) refl (text_one_line (answers.Again (agains.Pinned table pins)))
sound_answer (answers.Again (agains.Bin holder)) = sound_line (codes "AGAIN bin" ++ flat_map number_word (holder ∷ [])) refl (text_one_line (answers.Again (agains.Bin holder)))
sound_answer (answers.Again (agains.Filled leaf count hard)) = sound_line (codes "AGAIN filled" ++ flat_map number_word (leaf ∷ count ∷ hard ∷ [])) refl (text_one_line (answers.Again (agains.Filled leaf count hard)))
sound_answer answers.NoMemory = sound_line (codes "NOMEM" ++ []) refl (text_one_line answers.NoMemory)

sound_refusal : (refusal : Refusal) → AreSound (refusal_line refusal)
sound_refusal (refusals.Again cause) = sound_answer (answers.Again cause)
sound_refusal (refusals.Full cause) = sound_answer (answers.Full cause)
sound_refusal refusals.NoMemory = sound_answer answers.NoMemory

sound_pairs : (pairs : Pairs (List ℕ)) → AreSound (pair_lines pairs)
sound_pairs [] = record { all = refl; none = refl }
sound_pairs (p ∷ pairs) = sound-append (pair_line p.0 p.1) (pair_lines pairs) (sound_line (codes "PAIR" ++ flat_map escaped_word (p.0 ∷ p.1 ∷ [])) refl (pair_one_line p.0 p.1)) (sound_pairs pairs)

sound_reply : (reply : calls.Reply) → AreSound (reply_lines reply)
sound_reply calls.New = sound_answer answers.New
sound_reply calls.Set = sound_answer answers.Set
sound_reply (calls.Value value) = sound_answer (answers.Value (record { ref_ptr = (0, 0); now = value }))
sound_reply calls.Absent = sound_answer answers.Absent
sound_reply calls.Gone = sound_answer answers.Gone
sound_reply (calls.Pairs pairs) = sound-append (pair_lines pairs) (end_line (length pairs)) (sound_pairs pairs) (sound_answer (answers.End (length pairs)))

sound_end : (limit : Option ℕ) (sole done : Bool) (count : ℕ) (line : List ℕ) (refused : Option Refusal) → EndsScan limit sole done count line refused → AreSound line
sound_end limit sole true count line refused ends = subst AreSound (sym ends.0) (sound_answer (answers.End count))
sound_end limit sole false count line refused ends = subst AreSound (sym ends.2) (sound_refusal ends.0)

module _ (limit : Option ℕ) (lane : ℕ) (sole : Bool) (fits : List Entry → Type 0) where
  sound_call : (seen : List Entry) (call : calls.Call) (x : Exchange) → IsAnswered call x ⊎ IsRefused limit lane sole fits seen call x → AreSound x.text
  sound_call seen call x (inl is) = subst AreSound (sym is.line) (sound_reply is.entry.reply)
  sound_call seen call x (inr is) = subst AreSound (sym is.line) (sound_refusal is.refusal)

  sound_exchange : (seen : List Entry) (x : Exchange) (asked : Asked) → IsServedAs limit lane sole fits seen x asked → AreSound x.text
  sound_exchange seen x (Ok None) is = subst AreSound (sym is.line) record { all = refl; none = refl }
  sound_exchange seen x (Ok (Some (asks.Put key value))) is = sound_call seen (calls.Put key value) x is
  sound_exchange seen x (Ok (Some (asks.Get key))) is = sound_call seen (calls.Get key) x is
  sound_exchange seen x (Ok (Some (asks.Del key))) is = sound_call seen (calls.Del key) x is
  sound_exchange seen x (Ok (Some (asks.Scan from to most))) is =
      subst AreSound (sym is.lines) (sound-append _ is.line (sound_pairs _) (sound_end limit sole _ _ is.line x.refused is.end))
  sound_exchange seen x (Ok (Some asks.Quit)) is = subst AreSound (sym is.line) (sound_answer answers.Bye)
  sound_exchange seen x (Err (faults.Fault fault)) is = subst AreSound (sym is.line) (sound_answer (answers.Fault fault))
  sound_exchange seen x (Err faults.NoMemory) is = absurd is

  sound_pieces : (seen : List Entry) (pieces : List Exchange) → AreServed limit lane sole fits seen pieces → AreSound (text_of pieces)
  sound_pieces seen [] are = record { all = refl; none = refl }
  sound_pieces seen (x ∷ pieces) are = sound-append x.text (text_of pieces) (sound_exchange seen x x.asked are.0) (sound_pieces (seen ++ x.entries) pieces are.1)

-- what follows up to LF ends the line that was begun
first_line : (start line back : List ℕ) → (more : List ℕ) × (rest : List (List ℕ)) × (lines_behind start (line ++ 10 ∷ back) ≡ (start ++ more) ∷ rest)
first_line start [] back = ([], lines_behind [] back, ap (λ l. l ∷ lines_behind [] back) (sym (append-nil start)))
first_line start (b ∷ line) back =
    elim (eqb b 10) as (λ t. (more : List ℕ) × (rest : List (List ℕ)) × (cond t (start ∷ lines_behind [] (line ++ 10 ∷ back)) (lines_behind (start ++ b ∷ []) (line ++ 10 ∷ back)) ≡ (start ++ more) ∷ rest)) [
      | true ↦ ([], lines_behind [] (line ++ 10 ∷ back), ap (λ l. l ∷ lines_behind [] (line ++ 10 ∷ back)) (sym (append-nil start)))
      | false ↦ let later = first_line (start ++ b ∷ []) line back in (b ∷ later.0, later.1, later.2 ∙ ap (λ l. l ∷ later.1) (append_assoc start (b ∷ []) later.0))
    ]

no_start : (front : List ℕ) → IsLineStart front → open_part [] front ≡ []
no_start front (inl none) = ap (open_part []) none
no_start front (inr lines) = ap (open_part []) lines.1 ∙ open_part-append [] lines.0 (10 ∷ [])

sound_mid : (xs : List (List ℕ)) (y : List ℕ) (ys : List (List ℕ)) → list_all sound (xs ++ y ∷ ys) ≡ true → sound y ≡ true
sound_mid [] y ys all = (elim (sound y) as (λ t. (t && list_all sound ys) ≡ true → t ≡ true) [ true ↦ λ rest. refl | false ↦ λ no. no ]) all
sound_mid (x ∷ xs) y ys all = sound_mid xs y ys ((elim (sound x) as (λ t. (t && list_all sound (xs ++ y ∷ ys)) ≡ true → list_all sound (xs ++ y ∷ ys) ≡ true) [ true ↦ λ rest. rest | false ↦ λ no. absurd cc ]) all)

never_line : (word output : List ℕ) → ((more : List ℕ) → sound (word ++ more) ≡ true → has_word word (word ++ more) ≡ true) → ((bytes : List ℕ) → lines_behind [] (word ++ bytes) ≡ lines_behind word bytes) → AreSound output → counted word output ≡ 0 → HasLine word output → ⊥
never_line word output tells begun are none has =
    let front = has.0 in
    let behind = word ++ (has.1 ++ 10 ∷ has.2) in
    let first = first_line word has.1 has.2 in
    let line = word ++ first.0 in
    let these : lines_behind [] output ≡ lines_behind [] front ++ line ∷ first.1 =
    ap (lines_behind []) has.4 ∙ (lines_behind-append [] front behind ∙ (ap (λ s. lines_behind [] front ++ lines_behind s behind) (no_start front has.3) ∙ ap (λ ls. lines_behind [] front ++ ls) (begun (has.1 ++ 10 ∷ has.2) ∙ first.2))) in
    let here : has_word word line ≡ true = tells first.0 (sound_mid (lines_behind [] front) line first.1 (ap (list_all sound) (sym these) ∙ are.all)) in
    let sum : counted word output ≡ count_by (has_word word) (lines_behind [] front) + count_by (has_word word) (line ∷ first.1) = ap (count_by (has_word word)) these ∙ sum_by-append (λ l. cond (has_word word l) 1 0) (lines_behind [] front) (line ∷ first.1) in
    let split : count_by (has_word word) (line ∷ first.1) ≡ count_by (has_word word) (line ∷ []) + count_by (has_word word) first.1 = sum_by-append (λ l. cond (has_word word l) 1 0) (line ∷ []) first.1 in
    let one : count_by (has_word word) (line ∷ []) ≡ 1 = ap (λ t. 0 + cond t 1 0) here in
    absurd (omega (arith, sum, split, one, none))

tells_full : (more : List ℕ) → sound (codes "FULL" ++ more) ≡ true → has_word (codes "FULL") (codes "FULL" ++ more) ≡ true
tells_full more = elim (has_word (codes "FULL") (codes "FULL" ++ more)) as (λ t. ((false || t) && true) ≡ true → t ≡ true) [ true ↦ λ is. refl | false ↦ λ no. no ]

-- The output of a transcript has sound lines.
module _ (limit : Option ℕ) (lane : ℕ) (sole : Bool) (fits : List Entry → Type 0) (seen : List Entry) (lines : List (List ℕ)) (entries : List Entry) (output : List ℕ) (transcript : IsTranscript limit lane sole fits seen lines entries output) where
  sound_output : AreSound output
  sound_output = subst AreSound transcript.of_output (sound_pieces limit lane sole fits seen transcript.pieces transcript.each)

  -- where the word isn't counted in it, no line tells of want of memory
  pub memory_counted : counted (codes "NOMEM") output ≡ 0 → HasLine (codes "NOMEM") output → ⊥
  memory_counted memory = never_line (codes "NOMEM") output (λ more is. is) (λ bytes. refl) sound_output memory

  -- where neither word is counted, no line tells such a refusal
  pub none_counted : counted (codes "FULL") output ≡ 0 → counted (codes "NOMEM") output ≡ 0 → HasNoRefusal output
  none_counted full memory = record {
    full = never_line (codes "FULL") output tells_full (λ bytes. refl) sound_output full;
    no_memory = memory_counted memory;
  }
