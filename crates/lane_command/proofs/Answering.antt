-- From what lanes served to what they say, and how much of that was written.
use Rattle.std.proofs.Common.{◌≡◌, ◌≢◌, ℕ, suc, ◌+◌, ◌<◌, List, [], ◌∷◌, ◌++◌, length, Bool, false, Option, Vec, refl, sym, ap, ◌∙◌, subst, arith, inl, inr, append_assoc, drop}
use Rattle.std.specs.Prelude.{slice_index_or}
use Rattle.std.specs.declared.alloc.Global.{Global}
use Rattle.std.proofs.lemmas.List.Elements.{All-head, All-tail}
use Rattle.std.proofs.Math.Seq.{drop-cons}
use Rattle.map_model.specs.History.{Entry, IsLegal}
use Rattle.line_reader.specs.Told.{Told}
use Rattle.session.specs.declared.session.SessionEnd.{SessionEnd}
use Rattle.session.specs.declared.session.SessionEnd.TheVariants.{Quit, EndOfInput, ReadFault, WriteFault, NoMemory, Spent}
use Rattle.lane_lines.specs.Deal.{script_of, script_at, IsDealt}
use Rattle.lane_lines.specs.declared.dealt.Dealt.{Dealt}
use Rattle.lane_runner.specs.Runs.{ServesScript, NothingFits, EachServes, PlacesServe}
use Rattle.lane_runner.specs.declared.slot.LaneEnd.{LaneEnd}
use Rattle.lane_command.specs.Ends.{AreWhole, SaysWhole, outputs_of}
use Rattle.lane_command.specs.Said.{EachAnswers, LanesAnswer, LanesSaid, SaidBy, blocks, lane_line}
use Rattle.lane_command.specs.declared.run.LanesEnd.{LanesEnd}
use Rattle.lane_command.specs.declared.run.LanesEnd.TheVariants as ends
use Rattle.lane_command.proofs.Plainly.{said_plain}

-- what is said of a text that was written is so of a text of a wider kind
pub said_as : (end : LanesEnd) (before now : Option (List ℕ)) (says less : List ℕ → Type 0) → ((text : List ℕ) → says text → less text) → SaidBy end before now says → SaidBy end before now less
said_as ends.Done before now says less wider said = (said.0, wider said.0 said.1, said.2)
said_as ends.WriteFault before now says less wider said = (said.0, wider said.0 said.1, said.2)
said_as ends.NoMemory before now says less wider (inl none) = inl none
said_as ends.NoMemory before now says less wider (inr said) = inr (said.0, wider said.0 said.1, said.2)

-- a lane that had memory answered its whole script
pub serves_whole : (limit : Option ℕ) (lane : ℕ) (sole : Bool) (fits : List Entry → Type 0) (script : List ℕ) (end : SessionEnd) (output : List ℕ) (owes : ℕ) (before now : List Entry)
    → end ≢ NoMemory → ServesScript limit lane sole fits script end output owes before now → ServesScript limit lane sole fits script EndOfInput output owes before now
serves_whole limit lane sole fits script Quit output owes before now whole s = record { lines = s.lines; entries = s.entries; text = s.text; of_script = s.of_script; said = s.said; mine = s.mine; alone = s.alone; transcript = s.transcript; owed = s.owed }
serves_whole limit lane sole fits script EndOfInput output owes before now whole s = s
serves_whole limit lane sole fits script ReadFault output owes before now whole s = absurd s.of_script
serves_whole limit lane sole fits script WriteFault output owes before now whole s = absurd s.of_script
serves_whole limit lane sole fits script NoMemory output owes before now whole s = absurd (whole refl)
serves_whole limit lane sole fits script (Spent taken) output owes before now whole s = absurd s.of_script

module _ (limit : Option ℕ) (lanes : ℕ) (told : List Told) (before now : List Entry) where
  -- lanes that served the scripts dealt to them answer them
  each_answers : (lane : ℕ) (scripts : List (Vec ℕ Global)) (done : List LaneEnd) (owes : ℕ) → lane + length scripts ≡ lanes
      → ((i : ℕ) → i < length scripts → script_at scripts i ≡ script_of lanes (lane + i) told) → AreWhole done → EachServes limit lane scripts done owes before now → EachAnswers limit lanes told lane (outputs_of done) owes before now
  each_answers lane [] [] owes many dealt whole all = (omega (arith, many), all)
  each_answers lane [] (end ∷ done) owes many dealt whole all = absurd all
  each_answers lane (script ∷ scripts) [] owes many dealt whole all = absurd all
  each_answers lane (script ∷ scripts) (end ∷ done) owes many dealt whole all =
      let here : script.items ≡ script_of lanes lane told = dealt 0 (omega arith) ∙ ap (λ n. script_of lanes n told) (omega arith) in
      let rest = each_answers (lane + 1) scripts done all.1 (omega (arith, many)) (λ i less. dealt (suc i) (omega (arith, less)) ∙ ap (λ n. script_of lanes n told) (omega arith)) (All-tail (λ (e : LaneEnd). e.ending ≢ NoMemory) end done whole) all.4 in
      (all.0, all.1, all.2, subst (λ s. ServesScript limit lane false NothingFits s EndOfInput end.output all.0 before now) here (serves_whole limit lane false NothingFits script.items end.ending end.output all.0 before now (All-head (λ (e : LaneEnd). e.ending ≢ NoMemory) end done whole) all.3), rest)

  pub lanes_answer : (sole : Bool) (fits : List Entry → Type 0) (scripts : List (Vec ℕ Global)) (done : List LaneEnd) (count next : ℕ) → length scripts ≡ lanes
      → ((i : ℕ) → i < lanes → script_at scripts i ≡ script_of lanes i told) → AreWhole done → PlacesServe limit sole fits scripts done count next before now → LanesAnswer limit lanes told sole fits (outputs_of done) count next before now
  lanes_answer sole fits [] done count next many dealt whole all = absurd all
  lanes_answer sole fits (script ∷ scripts) [] count next many dealt whole all = absurd all
  lanes_answer sole fits (script ∷ scripts) (end ∷ done) count next many dealt whole all =
      let here : script.items ≡ script_of lanes 0 told = dealt 0 (omega (arith, many)) in
      let rest = each_answers 1 scripts done all.1 (omega (arith, many)) (λ i less. dealt (suc i) (omega (arith, less, many)) ∙ ap (λ n. script_of lanes n told) (omega arith)) (All-tail (λ (e : LaneEnd). e.ending ≢ NoMemory) end done whole) all.4 in
      (all.0, all.1, all.2, subst (λ s. ServesScript limit 0 sole fits s EndOfInput end.output all.0 before now) here (serves_whole limit 0 sole fits script.items end.ending end.output all.0 before now (All-head (λ (e : LaneEnd). e.ending ≢ NoMemory) end done whole) all.3), rest)

-- the output of the next lane is the next one of the blocks
pub blocks_next : (done : List LaneEnd) (lane : ℕ) (end : LaneEnd) → lane < length done → blocks lane (outputs_of (drop lane done)) ≡ (lane_line lane ++ (slice_index_or done lane end).output) ++ blocks (lane + 1) (outputs_of (drop (lane + 1) done))
blocks_next done lane end less =
    let next : suc lane ≡ lane + 1 = omega arith in
    ap (λ ends. blocks lane (outputs_of ends)) (drop-cons done lane end less)
    ∙ (sym (append_assoc (lane_line lane) (slice_index_or done lane end).output (blocks (lane + 1) (outputs_of (drop (suc lane) done)))) ∙ ap (λ n. (lane_line lane ++ (slice_index_or done lane end).output) ++ blocks (lane + 1) (outputs_of (drop n done))) next)

-- So where a front was written and then that output, the front goes on by it.
module _ (done : List LaneEnd) (faults front : List ℕ) (lane : ℕ) (end : LaneEnd) (less : lane < length done) (output : List ℕ) (is : output ≡ (slice_index_or done lane end).output) (left : faults ++ blocks 0 (outputs_of done) ≡ front ++ blocks lane (outputs_of (drop lane done))) where
  pub text_next : faults ++ blocks 0 (outputs_of done) ≡ front ++ ((lane_line lane ++ output) ++ blocks (lane + 1) (outputs_of (drop (lane + 1) done)))
  text_next = left ∙ ap (λ w. front ++ w) (blocks_next done lane end less ∙ ap (λ o. (lane_line lane ++ o) ++ blocks (lane + 1) (outputs_of (drop (lane + 1) done))) (sym is))

  pub front_next : faults ++ blocks 0 (outputs_of done) ≡ (front ++ (lane_line lane ++ output)) ++ blocks (lane + 1) (outputs_of (drop (lane + 1) done))
  front_next = text_next ∙ sym (append_assoc front (lane_line lane ++ output) (blocks (lane + 1) (outputs_of (drop (lane + 1) done))))

-- What lanes that had memory say of the lines that were dealt to them.
pub lanes_said : (limit : Option ℕ) (lanes : ℕ) (told : List Told) (sole : Bool) (fits : List Entry → Type 0) (count next : ℕ) (before now : List Entry) (dealt : Dealt) (faults : List ℕ) (done : List LaneEnd)
    → IsDealt lanes told dealt → faults ≡ dealt.faults.items → IsLegal now → PlacesServe limit sole fits dealt.scripts.items done count next before now → (text : List ℕ) → SaysWhole faults done text → LanesSaid limit lanes told sole fits count next before now text
lanes_said limit lanes told sole fits count next before now dealt faults done is_dealt same legal places text says =
    let many : length dealt.scripts.items ≡ lanes = omega (arith, is_dealt.many, dealt.scripts.ok.0) in
    let answers = lanes_answer limit lanes told before now sole fits dealt.scripts.items done count next many is_dealt.scripts says.0 places in
    let is = says.1 ∙ ap (λ f. f ++ blocks 0 (outputs_of done)) (same ∙ is_dealt.faults) in
    record { outputs = outputs_of done; answers = answers; says = is; plain = said_plain limit lanes told sole fits (outputs_of done) count next before now text legal answers is }
