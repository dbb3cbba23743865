-- All visits of all sessions are one list of requests: event by event.
use Rattle.std.proofs.Common.{◌≡◌, ℕ, ◌≤◌, arith, Bool, true, false, List, [], ◌∷◌, ◌++◌, length, map, sym, ap, subst, refl, ◌∙◌, append_assoc, append-nil, Option, Some, None}
use Rattle.std.specs.Prelude.{◌≢◌, IfSome, nat_eq, if◌then◌else◌}
use Rattle.std.proofs.lemmas.Bool.{eqb-true, eqb-false}
use Rattle.std.proofs.lemmas.List.{length-append}
use Rattle.std.proofs.lemmas.Option.{none-some}
use Rattle.frame_fields.specs.Frames.{IsFrames}
use Rattle.broker_state.specs.State.{State}
use Rattle.sessions.specs.Turns.{Exchange, SessionState, InTurn, new_session, replied, frames_of}
use Rattle.sessions.specs.declared.visiting.Visit.{Visit}
use Rattle.sessions.specs.declared.visiting.Seat.{Seat}
use Rattle.sessions.specs.Visits.{Moved}
use Rattle.sessions.specs.Steps.{VisitsSession}
use Rattle.sessions.specs.Orders.{World, session_at, new_world, Event, Step, Run, IsOpened, IsVisited, IsClosed, came_in, came_of, sent_in, sent_to, answered_in, one_list, own, IsOwnPart, IsOneOrder, IsInOrder, GoesOnBy, OthersStay, VisitsAt}
use Rattle.sessions.specs.Orders.Event.{Opens, Visits, Closes}
use Rattle.sessions.proofs.Frames.{no_frames, cut_longer}
use Rattle.sessions.proofs.Turning.{exchanges_append, replied_append, in_turn_append}

-- ---- lists

own_append : (k : ℕ) (xs ys : List (ℕ × Exchange)) → own k (xs ++ ys) ≡ own k xs ++ own k ys
own_append k [] ys = refl
own_append k (x ∷ xs) ys = grind (arith, own_append k xs ys)

own_marked : (k who : ℕ) (es : List Exchange) → own k (map (λ e. (who, e)) es) ≡ (if nat_eq k who then es else [])
own_marked k who [] = grind arith
own_marked k who (e ∷ es) = grind (arith, own_marked k who es)

unmarked : (who : ℕ) (es : List Exchange) → map (λ (x : ℕ × Exchange). x.1) (map (λ e. (who, e)) es) ≡ es
unmarked who [] = refl
unmarked who (e ∷ es) = ap (λ (xs : List Exchange). e ∷ xs) (unmarked who es)

unmarked_append : (xs ys : List (ℕ × Exchange)) → map (λ (x : ℕ × Exchange). x.1) (xs ++ ys) ≡ map (λ (x : ℕ × Exchange). x.1) xs ++ map (λ (x : ℕ × Exchange). x.1) ys
unmarked_append [] ys = refl
unmarked_append (x ∷ xs) ys = ap (λ (es : List Exchange). x.1 ∷ es) (unmarked_append xs ys)

-- ---- one session through one event

-- What came of a client so far, what it was sent and which of its frames were answered. Of a client whose session was
-- never opened that is nothing.
record Follows (w : World) (k : ℕ) (came sent : List ℕ) (es : List Exchange) : Type 0 where
  part : IsOwnPart came sent es (session_at w k)
  unopened : w.next ≤ k → (session_at w k ≡ None) × (came ≡ []) × (sent ≡ []) × (es ≡ [])

-- nothing more came, was sent or was answered
same_part : (old new : World) (k : ℕ) (came sent : List ℕ) (es : List Exchange) → session_at new k ≡ session_at old k → (new.next ≤ k → old.next ≤ k)
    → Follows old k came sent es → Follows new k came sent es
same_part old new k came sent es same less f = record {
  part = subst (IsOwnPart came sent es) (sym same) f.part;
  unopened = λ le. let was = f.unopened (less le) in (same ∙ was.0, was.1, was.2, was.3);
}

opened_part : (who k : ℕ) (old new : World) (came sent : List ℕ) (es : List Exchange) → IsOpened who old new → k ≡ who → Follows old k came sent es → Follows new k came sent es
opened_part who k old new came sent es is here f =
    let was = f.unopened (omega (arith, is.number, here)) in
    let now : session_at new k ≡ Some new_session = subst (λ (x : ℕ). session_at new x ≡ Some new_session) (sym here) is.is_new in
    record {
      part = record {
        held = [];
        owed = [];
        cut = subst (λ (x : List ℕ). IsFrames x (frames_of es) []) (sym was.1) (subst (λ (x : List Exchange). IsFrames [] (frames_of x) []) (sym was.3) (no_frames []));
        sent_is = ap (λ (x : List ℕ). x ++ []) was.2 ∙ ap replied (sym was.3);
        is_now = subst (λ o. IfSome o (λ st. (st.held ≡ []) × (st.owed ≡ []) × (st.answered ≡ length es))) (sym now) (refl, refl, ap length (sym was.3));
      };
      unopened = λ le. absurd (omega (arith, le, is.next, is.number, here));
    }

-- a session that is open isn't one that was never opened
open_before : {P : Type 0} (old : World) (k : ℕ) (st : SessionState) (came sent : List ℕ) (es : List Exchange) → session_at old k ≡ Some st → Follows old k came sent es → old.next ≤ k → P
open_before old k st came sent es was f le = absurd (none-some st (sym (f.unopened le).0 ∙ was))

visited_part : (k : ℕ) (moved : Moved) (old new : World) (came sent : List ℕ) (es : List Exchange) → IsVisited k moved old new → Follows old k came sent es
    → Follows new k (came ++ moved.came) (sent ++ moved.sent) (es ++ moved.exchanges)
visited_part k moved old new came sent es is f =
    let now = subst (λ o. IfSome o (λ st. (st.held ≡ f.part.held) × (st.owed ≡ f.part.owed) × (st.answered ≡ length es))) is.was f.part.is_now in
    let ex = moved.exchanges in
    record {
      part = record {
        held = is.after.held;
        owed = is.after.owed;
        cut = exchanges_append (came ++ moved.came) (f.part.held ++ moved.came) is.after.held es ex (cut_longer came f.part.held moved.came (frames_of es) f.part.cut)
            (subst (λ (x : List ℕ). IsFrames (x ++ moved.came) (frames_of ex) is.after.held) now.0 is.moves.cut);
        sent_is = append_assoc sent moved.sent is.after.owed ∙ ap (λ (x : List ℕ). sent ++ x) (sym is.moves.owes) ∙ sym (append_assoc sent is.before.owed (replied ex))
            ∙ ap (λ (x : List ℕ). x ++ replied ex) (ap (λ (x : List ℕ). sent ++ x) now.1 ∙ f.part.sent_is) ∙ sym (replied_append es ex);
        is_now = subst (λ o. IfSome o (λ st. (st.held ≡ is.after.held) × (st.owed ≡ is.after.owed) × (st.answered ≡ length (es ++ ex)))) (sym is.is)
            (refl, refl, omega (arith, is.moves.counts, now.2, length-append es ex));
      };
      unopened = λ le. open_before old k is.before came sent es is.was f (omega (arith, le, is.next));
    }

closed_part : (k : ℕ) (old new : World) (came sent : List ℕ) (es : List Exchange) → IsClosed k old new → Follows old k came sent es → Follows new k came sent es
closed_part k old new came sent es is f = record {
  part = record {
    held = f.part.held;
    owed = f.part.owed;
    cut = f.part.cut;
    sent_is = f.part.sent_is;
    is_now = subst (λ o. IfSome o (λ st. (st.held ≡ f.part.held) × (st.owed ≡ f.part.owed) × (st.answered ≡ length es))) (sym is.is) tt;
  };
  unopened = λ le. open_before old k is.before came sent es is.was f (omega (arith, le, is.next));
}

-- lists that are equal to those
follows_same : (w : World) (k : ℕ) (came came' sent sent' : List ℕ) (es es' : List Exchange) → came' ≡ came → sent' ≡ sent → es' ≡ es → Follows w k came sent es → Follows w k came' sent' es'
follows_same w k came came' sent sent' es es' a b c f =
    subst (λ x. Follows w k x sent' es') (sym a) (subst (λ x. Follows w k came x es') (sym b) (subst (λ x. Follows w k came sent x) (sym c) f))

follows_nil : (w : World) (k : ℕ) (came sent : List ℕ) (es : List Exchange) → Follows w k came sent es → Follows w k (came ++ []) (sent ++ []) (es ++ [])
follows_nil w k came sent es f = follows_same w k came (came ++ []) sent (sent ++ []) es (es ++ []) (append-nil came) (append-nil sent) (append-nil es) f

not_same : (k who : ℕ) → nat_eq k who ≡ false → k ≢ who
not_same k who is = λ here. eqb-false k who is here

step_follows : (old new : World) (event : Event) (k : ℕ) (came sent : List ℕ) (es : List Exchange) → Step old event new → Follows old k came sent es
    → Follows new k (came ++ came_in k event) (sent ++ sent_in k event) (es ++ own k (answered_in event))
step_follows old new (Opens who) k came sent es step f = follows_nil new k came sent es (by (nat_eq k who) refl) where
  by : (b : Bool) → nat_eq k who ≡ b → Follows new k came sent es
  by true is = opened_part who k old new came sent es step (eqb-true k who is) f
  by false is = same_part old new k came sent es (step.only.1 k (not_same k who is)) (λ le. omega (arith, le, step.next)) f
step_follows old new (Visits who moved) k came sent es step f = by (nat_eq k who) refl where
  by : (b : Bool) → nat_eq k who ≡ b → Follows new k (came ++ came_in k (Visits who moved)) (sent ++ sent_in k (Visits who moved)) (es ++ own k (answered_in (Visits who moved)))
  by true is =
      let mine = subst (λ (x : ℕ). IsVisited x moved old new) (sym (eqb-true k who is)) step in
      follows_same new k (came ++ moved.came) _ (sent ++ moved.sent) _ (es ++ moved.exchanges) _
      (ap (λ (b : Bool). came ++ (if b then moved.came else [])) is)
      (ap (λ (b : Bool). sent ++ (if b then moved.sent else [])) is)
      (ap (λ (x : List Exchange). es ++ x) (own_marked k who moved.exchanges ∙ ap (λ (b : Bool). if b then moved.exchanges else []) is))
      (visited_part k moved old new came sent es mine f)
  by false is =
      follows_same new k came _ sent _ es _
      (ap (λ (b : Bool). came ++ (if b then moved.came else [])) is ∙ append-nil came)
      (ap (λ (b : Bool). sent ++ (if b then moved.sent else [])) is ∙ append-nil sent)
      (ap (λ (x : List Exchange). es ++ x) (own_marked k who moved.exchanges ∙ ap (λ (b : Bool). if b then moved.exchanges else []) is) ∙ append-nil es)
      (same_part old new k came sent es (step.others k (not_same k who is)) (λ le. omega (arith, le, step.next)) f)
step_follows old new (Closes who) k came sent es step f = follows_nil new k came sent es (by (nat_eq k who) refl) where
  by : (b : Bool) → nat_eq k who ≡ b → Follows new k came sent es
  by true is = closed_part k old new came sent es (subst (λ (x : ℕ). IsClosed x old new) (sym (eqb-true k who is)) step) f
  by false is = same_part old new k came sent es (step.only.1 k (not_same k who is)) (λ le. omega (arith, le, step.next)) f

-- ---- all events

run_follows : (old new : World) (events : List Event) (k : ℕ) (came sent : List ℕ) (es : List Exchange) → Run old events new → Follows old k came sent es
    → Follows new k (came ++ came_of k events) (sent ++ sent_to k events) (es ++ own k (one_list events))
run_follows old new [] k came sent es run f = subst (λ w. Follows w k (came ++ []) (sent ++ []) (es ++ [])) (sym run) (follows_nil old k came sent es f)
run_follows old new (event ∷ events) k came sent es run f =
    let first = step_follows old run.0 event k came sent es run.1 f in
    let all = run_follows run.0 new events k (came ++ came_in k event) (sent ++ sent_in k event) (es ++ own k (answered_in event)) run.2 first in
    follows_same new k _ _ _ _ _ _
    (sym (append_assoc came (came_in k event) (came_of k events)))
    (sym (append_assoc sent (sent_in k event) (sent_to k events)))
    (ap (λ (x : List Exchange). es ++ x) (own_append k (answered_in event) (one_list events)) ∙ sym (append_assoc es (own k (answered_in event)) (own k (one_list events))))
    all

step_in_turn : (old new : World) (event : Event) → Step old event new → InTurn old.state (map (λ (x : ℕ × Exchange). x.1) (answered_in event)) new.state
step_in_turn old new (Opens who) step = sym step.only.0
step_in_turn old new (Visits who moved) step = subst (λ (x : List Exchange). InTurn old.state x new.state) (sym (unmarked who moved.exchanges)) step.moves.in_turn
step_in_turn old new (Closes who) step = sym step.only.0

run_in_turn : (old new : World) (events : List Event) → Run old events new → InTurn old.state (map (λ (x : ℕ × Exchange). x.1) (one_list events)) new.state
run_in_turn old new [] run = ap (λ (w : World). w.state) (sym run)
run_in_turn old new (event ∷ events) run =
    subst (λ (x : List Exchange). InTurn old.state x new.state) (sym (unmarked_append (answered_in event) (one_list events)))
    (in_turn_append old.state run.0.state new.state (map (λ (x : ℕ × Exchange). x.1) (answered_in event)) (map (λ (x : ℕ × Exchange). x.1) (one_list events))
    (step_in_turn old run.0 event run.1) (run_in_turn run.0 new events run.2))

none_follows : (s : State) (k : ℕ) → Follows (new_world s) k [] [] []
none_follows s k = record {
  part = record { held = []; owed = []; cut = no_frames []; sent_is = refl; is_now = tt };
  unopened = λ le. (refl, refl, refl, refl);
}

pub one_order : (s : State) (events : List Event) (now : World) → Run (new_world s) events now → IsOneOrder s events now
one_order s events now run = record {
  in_turn = run_in_turn (new_world s) now events run;
  each = λ k. (run_follows (new_world s) now events k [] [] [] run (none_follows s k)).part;
  unopened = λ k le. let none = (run_follows (new_world s) now events k [] [] [] run (none_follows s k)).unopened le in (none.0, none.3);
}

-- ---- one event more

run_then : (w mid new : World) (events : List Event) (event : Event) → Run w events mid → Step mid event new → Run w (events ++ event ∷ []) new
run_then w mid new [] event run step = (new, subst (λ (x : World). Step x event new) run step, refl)
run_then w mid new (first ∷ events) event run step = (run.0, run.1, run_then run.0 mid new events event run.2 step)

pub goes_on : (event : Event) (old new : World) → Step old event new → GoesOnBy event old new
goes_on event old new step = λ first events run. run_then (new_world first) old new events event run step

pub in_order : (now : World) → IsInOrder now
in_order now = λ first events run. one_order first events now run

-- ---- a visit of one session, among the others

pub differs : (a b : ℕ) → b ≢ a → nat_eq a b ≡ false
differs a b not = by (nat_eq a b) refl where
  by : (t : Bool) → nat_eq a b ≡ t → nat_eq a b ≡ false
  by true is = absurd (not (sym (eqb-true a b is)))
  by false is = is

pub visited_in : (who clock : ℕ) (old was new : World) (seat seat' : Seat) (before after : SessionState) (left left' : Option (List ℕ)) (visit : Visit)
    → was ≡ old → session_at was who ≡ Some before → session_at new who ≡ Some after → OthersStay who was new → new.next ≡ was.next
    → VisitsSession clock was.state seat before new.state seat' after left left' visit → VisitsAt who clock seat old seat' new left left' visit
visited_in who clock old was new seat seat' before after left left' visit same found is others next v =
    let visited : IsVisited who v.moved was new = record { before = before; after = after; was = found; is = is; moves = v.moves; others = others; next = next } in
    subst (λ (w : World). VisitsAt who clock seat w seat' new left left' visit) same (record {
      moved = v.moved;
      visited = visited;
      goes_on = goes_on (Visits who v.moved) was new visited;
      made = v.made;
    })
