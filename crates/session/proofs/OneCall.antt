-- A request of one call, and one without calls.
use Rattle.std.proofs.Common.{◌≡◌, ℕ, ◌≤◌, List, [], ◌∷◌, Bool, refl, ap, ◌∙◌, Option, Some, None, Result, Ok, Err, arith}
use Rattle.std.proofs.lemmas.List.{append-nil}
use Rattle.map_model.specs.Calls as calls
use Rattle.map_model.specs.History.{Entry, IsLegal, entry_of}
use Rattle.map_model.specs.Ordered.{Follows, Enters, EntersLast, Stays}
use Rattle.map_model.specs.Refusals.{NotFull}
use Rattle.map_model.specs.declared.refusal.Refusal.{Refusal}
use Rattle.map_model.specs.declared.refusal.Refusal.TheVariants.{Again, Full, NoMemory}
use Rattle.map_model.proofs.Growing.{follows_weaker, follows_told, follows_itself, stays}
use Rattle.line_protocol.specs.declared.request.Request.{Request}
use Rattle.line_protocol.specs.Requests.{Asked}
use Rattle.patience.specs.Patience.{IsCounted}
use Rattle.session.specs.Replies.{reply_lines, refusal_line}
use Rattle.session.specs.Transcripts.{Exchange, IsAnswered, IsRefused, IsTold, IsFull, HasNoRoom, IsServedAs, Transcribes}
use Rattle.session.specs.Turns.{WritesPieces}
use Rattle.session.specs.Writes.{Gained, Reaches}
use Rattle.session.proofs.Joining.{transcribes_one}
use Rattle.session.proofs.Turning.{writes_one}

-- where want of room isn't told, nothing is left to show of it
pub not_full : (refusal : Refusal) → IsFull refusal → NotFull {T = Bool} (Err refusal) → ⊥
not_full (Again cause) full none = full
not_full (Full cause) full none = none
not_full NoMemory full none = full

pub last_enters : (a b : List Entry → Type 0) (lane : ℕ) (sole : Bool) (call : calls.Call) (reply : calls.Reply) → Follows a b (EntersLast lane sole call reply) → Follows a b (Enters lane sole call reply)
last_enters a b lane sole call reply = follows_weaker a b _ _ (λ old new p. p.enters)

module _ (limit : Option ℕ) (lane : ℕ) (sole : Bool) (fits : List Entry → Type 0) (asked : Asked) (a b : List Entry → Type 0) (i j : ℕ) (u v : Option Refusal) where
  -- the call was answered
  pub call_answered : {T E : Type 0} (r : Result T E) (w z : Option (List ℕ)) (call : calls.Call) (reply : calls.Reply) → ((seen : List Entry) (x : Exchange) → IsAnswered call x → IsServedAs limit lane sole fits seen x asked)
      → Gained r w z (reply_lines reply) → i ≤ j → Follows a b (Enters lane sole call reply) → Follows a b (Transcribes limit lane sole fits i j u v (λ all. all ≡ asked ∷ []) (WritesPieces r w z))
  call_answered r w z call reply serves say later = follows_weaker a b _ _ (λ old new grows.
      let e = entry_of lane old call reply in
      transcribes_one limit lane sole fits i j u v (λ all. all ≡ asked ∷ []) (WritesPieces r w z) old new (record { asked = asked; entries = e ∷ []; text = reply_lines reply; refused = None })
      refl (writes_one r w z _ say) grows (serves old _ (record { entry = e; only = refl; called = refl; line = refl; none = refl })) (omega (arith, later)) tt)

  -- it was refused
  pub call_refused : {T E : Type 0} (r : Result T E) (w z : Option (List ℕ)) (call : calls.Call) (refusal : Refusal) → ((seen : List Entry) (x : Exchange) → IsRefused limit lane sole fits seen call x → IsServedAs limit lane sole fits seen x asked)
      → Gained r w z (refusal_line refusal) → IsCounted limit sole i j v refusal → ((seen : List Entry) → a seen → IsFull refusal → HasNoRoom lane sole fits seen call)
      → Follows a b (Stays lane sole) → Follows a b (Transcribes limit lane sole fits i j u v (λ all. all ≡ asked ∷ []) (WritesPieces r w z))
  call_refused r w z call refusal serves say counted room = follows_told a b _ _ (λ old new history grows.
      transcribes_one limit lane sole fits i j u v (λ all. all ≡ asked ∷ []) (WritesPieces r w z) old new (record { asked = asked; entries = []; text = refusal_line refusal; refused = Some refusal })
      refl (writes_one r w z _ say) grows (serves old _ (record { refusal = refusal; none = refl; line = refl; told = refl; may = counted.may; room = room old history })) counted.rose counted.is_last)

-- a line that is answered without calls
pub line_told : {T E : Type 0} (limit : Option ℕ) (lane : ℕ) (sole : Bool) (fits : List Entry → Type 0) (asked : Asked) (a : List Entry → Type 0) (i : ℕ) (u : Option Refusal) (r : Result T E) (w z : Option (List ℕ)) (text : List ℕ)
    → ((seen : List Entry) (x : Exchange) → IsTold text x → IsServedAs limit lane sole fits seen x asked) → ((old : List Entry) → a old → IsLegal old) → Gained r w z text → Follows a a (Transcribes limit lane sole fits i i u u (λ all. all ≡ asked ∷ []) (WritesPieces r w z))
line_told limit lane sole fits asked a i u r w z text serves legal say = follows_itself a _ (λ old history.
    transcribes_one limit lane sole fits i i u u (λ all. all ≡ asked ∷ []) (WritesPieces r w z) old old (record { asked = asked; entries = []; text = text; refused = None })
    refl (writes_one r w z _ say) (stays lane sole old (legal old history)) (serves old _ (record { none = refl; line = refl; untold = refl })) (omega arith) tt)

-- equal requests are asked for alike
pub one_asked : (a b : Request) → a ≡ b → ◌≡◌ {A = List Asked} (Ok (Some a) ∷ []) (Ok (Some b) ∷ [])
one_asked a b same = ap (λ (r : Request). let asks : Asked = Ok (Some r) in asks ∷ []) same

-- where all was to be reached and was, a stop may have come behind it
pub reaches_all : {T E X : Type 0} (r : Result T E) (all some : List X) → some ≡ all → Reaches r all some
reaches_all (Ok x) all some is = is
reaches_all (Err e) all some is = ([], append-nil some ∙ is)
