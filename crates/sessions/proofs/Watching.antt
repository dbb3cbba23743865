-- One session is visited while others sleep: who slept and waited on does so behind it.
use Rattle.std.proofs.Common.{◌≡◌, ◌≢◌, ℕ, ◌+◌, ◌<◌, arith, Bool, true, false, inl, inr, Option, Some, None, List, [], ◌∷◌, ◌++◌, length, sym, ap, subst, refl, ◌∙◌, append_assoc, append-nil}
use Rattle.std.specs.Prelude.{◌⊎◌, map, not, nat_eq, IfSome, IsSome, if◌then◌else◌}
use Rattle.std.specs.Map.{lookup}
use Rattle.std.specs.Option.{option_and_then, option_map, unwrap_or}
use Rattle.std.proofs.lemmas.Bool.{true≢false}
use Rattle.std.proofs.lemmas.Bool.Decides.{nat_tests}
use Rattle.std.proofs.lemmas.Option.{none-some}
use Rattle.frame_fields.specs.Frames.{IsFirstFrame, IsFrames, framed}
use Rattle.frame_fields.proofs.FramesCut.{first_not_incomplete, first_once}
use Rattle.request_frames.specs.Fetch.{FetchValue}
use Rattle.request_frames.specs.Requests.{RequestValue, IsRequest}
use Rattle.request_frames.specs.Requests.BodyValue.{fetch}
use Rattle.request_frames.proofs.OneOutcome.{one_request}
use Rattle.broker_state.specs.State.{State, content_at}
use Rattle.broker_state.specs.Sound.{IsSound}
use Rattle.broker_node.specs.Effects.{TopicPartition, effect, only_grows, places}
use Rattle.broker_node.specs.Streams.{IsAnswered}
use Rattle.fetch_waits.specs.Sleeping.{Contents}
use Rattle.fetch_waits.specs.Waiting.{fetch_waits}
use Rattle.sessions.specs.declared.waiting.Noted.{Noted}
use Rattle.sessions.specs.declared.waiting.Noted.TheVariants.{Grows}
use Rattle.sessions.specs.declared.session.Stop.{Stop}
use Rattle.sessions.specs.declared.session.Stop.TheVariants.{Short, Full, Dear, Waits as Waiting, Over as Stopped}
use Rattle.sessions.specs.declared.visiting.Seat.{Seat}
use Rattle.sessions.specs.Turns.{Exchange, SessionState, WaitsFirst}
use Rattle.sessions.specs.Steps.{AnswersNext, ComesIn, MayIdle, StopsTurn, WaitsNext, waiting_for}
use Rattle.sessions.specs.Waiting.{WaitState, WaitsState, WaitingState, asleep_at, asleep_if, is_behind, named_at, names_of, unnamed, unnamed_at, wait_at}
use Rattle.sessions.specs.Asleep.{AllWaitOn, AreMarked, AsksFirst, IsOwn, KeepsWatch, Leaves, OthersWait, Watches, WaitsOn}
use Rattle.sessions.proofs.Leaving.{answered_leaves}

-- ---- who asks what

asks_once : (held : List ℕ) (q r : FetchValue) → AsksFirst held q → AsksFirst held r → q ≡ r
asks_once held q r a b =
    let frames = first_once a.frame b.frame held a.rest b.rest a.first b.first in
    let requests = one_request a.frame a.request b.request a.reads (subst (λ (x : List ℕ). IsRequest x b.request) (sym frames.0) b.reads) in
    fetch_inj q r (sym a.is_fetch ∙ ap (λ (x : RequestValue). x.body) requests ∙ b.is_fetch)
  where
    fetch_inj : (q r : FetchValue) → fetch q ≡ fetch r → q ≡ r
    fetch_inj q r same = cc

asks_longer : (held piece : List ℕ) (q : FetchValue) → AsksFirst held q → AsksFirst (held ++ piece) q
asks_longer held piece q a = record {
  frame = a.frame;
  rest = a.rest ++ piece;
  request = a.request;
  first = record { parts = ap (λ (x : List ℕ). x ++ piece) a.first.parts ∙ append_assoc (framed a.frame) a.rest piece; within = a.first.within };
  reads = a.reads;
  is_fetch = a.is_fetch;
}

-- ---- names

pub none_asleep : (waits : WaitsState) (k : ℕ) → wait_at waits k ≡ None → asleep_at waits k ≡ None
none_asleep waits k none = by (is_behind waits k) where
  by : (b : Bool) → asleep_if b (wait_at waits k) ≡ None
  by true = ap (option_and_then unnamed) none
  by false = refl

pub asleep_waits : (waits : WaitsState) (k : ℕ) (wait : WaitState) → asleep_at waits k ≡ Some wait → wait_at waits k ≡ Some wait
asleep_waits waits k wait is = by (is_behind waits k) (wait_at waits k) is where
  by : (b : Bool) (o : Option WaitState) → asleep_if b o ≡ Some wait → o ≡ Some wait
  by true (Some w) is = named w.is_named refl is where
    named : (b : Bool) → w.is_named ≡ b → unnamed w ≡ Some wait → Some w ≡ Some wait
    named b e is = grind (arith, e, is)
  by true None is = absurd (none-some wait is)
  by false o is = absurd (none-some wait is)

-- whether it sleeps, as the sessions tell it
abbrev pub is_unnamed : Option Bool → Bool
is_unnamed named = unwrap_or (option_map not named) false

pub named_is : (waits : WaitsState) (k : ℕ) → lookup (nat_eq k) (names_of waits) ≡ named_at waits k
named_is waits k = by waits.entries where
  by : (es : List (ℕ × WaitState)) → lookup (nat_eq k) (map (λ e. (e.0, e.1.is_named)) es) ≡ option_map (λ (w : WaitState). w.is_named) (lookup (nat_eq k) es)
  by [] = refl
  by (e ∷ es) = grind (arith, by es)

pub unnamed_sleeps : (o : Option WaitState) → IsSome (option_and_then unnamed o) → is_unnamed (option_map (λ (w : WaitState). w.is_named) o) ≡ true
unnamed_sleeps (Some w) is = grind (arith, is)
unnamed_sleeps None is = absurd (true≢false (sym is))

pub sleeps_unnamed : (o : Option WaitState) → is_unnamed (option_map (λ (w : WaitState). w.is_named) o) ≡ true → (wait : WaitState) × (option_and_then unnamed o ≡ Some wait)
sleeps_unnamed (Some w) is = let named : w.is_named ≡ false = grind (arith, is) in (w, grind (arith, named))
sleeps_unnamed None is = absurd (true≢false (sym is))

pub named_awake : (o : Option WaitState) → option_and_then unnamed o ≡ None → is_unnamed (option_map (λ (w : WaitState). w.is_named) o) ≡ false
named_awake (Some w) none = grind (arith, none)
named_awake None none = refl

none_named : (o p : Option WaitState) → option_map (λ (w : WaitState). w.is_named) o ≡ option_map (λ (w : WaitState). w.is_named) p → p ≡ None → o ≡ None
none_named (Some w) p same none = absurd (none-some w.is_named (sym (same ∙ ap (option_map (λ (v : WaitState). v.is_named)) none)))
none_named None p same none = refl

pub still_none : (old new : WaitsState) (k : ℕ) → named_at new k ≡ named_at old k → wait_at old k ≡ None → wait_at new k ≡ None
still_none old new k same none = none_named (wait_at new k) (wait_at old k) same none

pub others_stay : (k : ℕ) (old new : WaitsState) → ((j : ℕ) → j ≢ k → wait_at new j ≡ wait_at old j) → ((j : ℕ) → j ≢ k → asleep_at new j ≡ asleep_at old j) → OthersWait k old new
others_stay k old new same asleep = record {
  named = λ j other. ap (option_map (λ (w : WaitState). w.is_named)) (same j other);
  slept = λ j wait other is. (wait, sym (asleep j other) ∙ is, refl);
}

pub others_then : (k : ℕ) (a b c : WaitsState) → OthersWait k a b → OthersWait k b c → OthersWait k a c
others_then k a b c first second = record {
  named = λ j other. second.named j other ∙ first.named j other;
  slept = λ j wait other is.
      let later = second.slept j wait other is in
      let before = first.slept j later.0 other later.1 in
      (before.0, before.1, later.2 ∙ before.2);
}

pub nobody_named : (k : ℕ) (old new : WaitsState) → new ≡ old → OthersWait k old new
nobody_named k old new same = record {
  named = λ j other. ap (λ (w : WaitsState). named_at w j) same;
  slept = λ j wait other is. (wait, sym (ap (λ (w : WaitsState). asleep_at w j) same) ∙ is, refl);
}

-- ---- keeping watch

pub watch_none : (k : ℕ) (s : State) (w : WaitingState) (session : SessionState) → KeepsWatch k s w session s w session
watch_none k s w session asked watches = (asked, (λ j other. refl), watches)

pub watch_then : (k : ℕ) (s m after : State) (w v u : WaitingState) (a b c : SessionState) → KeepsWatch k s w a m v b → KeepsWatch k m v b after u c → KeepsWatch k s w a after u c
watch_then k s m after w v u a b c first second asked watches =
    let one = first asked watches in
    let two = second one.0 one.2 in
    (two.0, (λ j other. two.1 j other ∙ one.1 j other), two.2)

-- so it goes on
pub record Watching (k : ℕ) (s : State) (w : WaitingState) (a : SessionState) (after : State) (v : WaitingState) (b : SessionState) : Type 0 where
  pub keeps : KeepsWatch k s w a after v b
  pub others : OthersWait k w.waits v.waits

pub watching_none : (k : ℕ) (s : State) (w : WaitingState) (session : SessionState) → Watching k s w session s w session
watching_none k s w session = record { keeps = watch_none k s w session; others = nobody_named k w.waits w.waits refl }

pub watching_then : (k : ℕ) (s m after : State) (w v u : WaitingState) (a b c : SessionState) → Watching k s w a m v b → Watching k m v b after u c → Watching k s w a after u c
watching_then k s m after w v u a b c first second = record {
  keeps = watch_then k s m after w v u a b c first.keeps second.keeps;
  others = others_then k w.waits v.waits u.waits first.others second.others;
}

-- where nothing changed but what is marked
pub watch_same : (k : ℕ) (s s' : State) (w v : WaitingState) (a b : SessionState) → s' ≡ s → b ≡ a → v.waits ≡ w.waits
    → ((s : State) (now : Contents) (asked : ℕ → FetchValue) → AllWaitOn s now w asked → AllWaitOn s now v asked) → KeepsWatch k s w a s' v b
watch_same k s s' w v a b same still waits noted asked watches =
    subst (λ (x : State). (asked' : ℕ → FetchValue) × ((j : ℕ) → j ≢ k → asked' j ≡ asked j) × Watches k x v b asked') (sym same) (
      asked,
      (λ j other. refl),
      record {
        wait_on = noted s (content_at s) asked watches.wait_on;
        own = subst (λ (x : WaitsState). IsOwn k x b (asked k)) (sym waits) (subst (λ (x : SessionState). IsOwn k w.waits x (asked k)) (sym still) watches.own);
      },
    )

pub watching_same : (k : ℕ) (s s' : State) (w v : WaitingState) (a b : SessionState) → s' ≡ s → b ≡ a → v.waits ≡ w.waits
    → ((s : State) (now : Contents) (asked : ℕ → FetchValue) → AllWaitOn s now w asked → AllWaitOn s now v asked) → Watching k s w a s' v b
watching_same k s s' w v a b same still waits noted = record { keeps = watch_same k s s' w v a b same still waits noted; others = nobody_named k w.waits v.waits waits }

-- where more came of the session, or less is owed
pub watch_held : (k : ℕ) (s : State) (w : WaitingState) (a b : SessionState) (piece : List ℕ) → b.held ≡ a.held ++ piece → b.due ≡ a.due → KeepsWatch k s w a s w b
watch_held k s w a b piece held due asked watches = (
  asked,
  (λ j other. refl),
  record {
    wait_on = watches.wait_on;
    own = λ wait is. let own = watches.own wait is in
        (subst (λ (x : List ℕ). AsksFirst x (asked k)) (sym held) (asks_longer a.held piece (asked k) own.0), due ∙ own.1);
  },
)

-- ---- a frame is answered

module _ (k : ℕ) (noted : Noted) (s after : State) (w v u : WaitingState) (a b : SessionState) (shown : List ℕ) (is : shown ≡ a.held) where
  -- the first frame that was held was answered
  pub watch_answered : (dear ended over : Bool) → IsSound s → AnswersNext dear ended over s a after b
      → ((frame rest : List ℕ) (q : RequestValue) → IsFirstFrame frame shown rest → IsRequest frame q → AreMarked s v (places (effect q.body)) × (noted ≡ Grows → only_grows (effect q.body) ≡ true))
      → ((s : State) (now : Contents) (asked : ℕ → FetchValue) → AllWaitOn s now w asked → AllWaitOn s now v asked)
      → ((s : State) (ps : List TopicPartition) (asked : ℕ → FetchValue) → AllWaitOn s (content_at s) v asked → AreMarked s v ps → Leaves s noted ps after → AllWaitOn after (content_at after) u asked)
      → wait_at u.waits k ≡ None → KeepsWatch k s w a after u b
  watch_answered dear ended over sound next marks notes passes none asked watches =
      let e = next.exchange in
      let answered : IsAnswered s e.frame e.reply after = subst (IsAnswered s e.frame e.reply) next.turn.in_turn.2 next.turn.in_turn.1 in
      let first : IsFirstFrame e.frame shown b.held = subst (λ (x : List ℕ). IsFirstFrame e.frame x b.held) (sym is) (first_of e.frame next.turn.cut) in
      let marked = marks e.frame b.held answered.request first answered.reads in (
        asked,
        (λ j other. refl),
        record {
          wait_on = passes s (places (effect answered.request.body)) asked (notes s (content_at s) asked watches.wait_on) marked.0 (answered_leaves noted s after e.frame e.reply answered sound marked.1);
          own = λ wait here. absurd (none-some wait (sym (none_asleep u.waits k none) ∙ here));
        },
      )
    where
      first_of : (frame : List ℕ) → IsFrames a.held (frame ∷ []) b.held → IsFirstFrame frame a.held b.held
      first_of frame cut = record { parts = cut.parts ∙ ap (λ (x : List ℕ). x ++ b.held) (append-nil (framed frame)); within = cut.within.0 }

  pub watching_answered : (dear ended over : Bool) → IsSound s → AnswersNext dear ended over s a after b
      → ((frame rest : List ℕ) (q : RequestValue) → IsFirstFrame frame shown rest → IsRequest frame q → AreMarked s v (places (effect q.body)) × (noted ≡ Grows → only_grows (effect q.body) ≡ true))
      → v.waits ≡ w.waits → ((s : State) (now : Contents) (asked : ℕ → FetchValue) → AllWaitOn s now w asked → AllWaitOn s now v asked)
      → ((s : State) (ps : List TopicPartition) (asked : ℕ → FetchValue) → AllWaitOn s (content_at s) v asked → AreMarked s v ps → Leaves s noted ps after → AllWaitOn after (content_at after) u asked)
      → wait_at u.waits k ≡ None → OthersWait k v.waits u.waits → Watching k s w a after u b
  watching_answered dear ended over sound next marks same notes passes none others = record {
    keeps = watch_answered dear ended over sound next marks notes passes none;
    others = others_then k w.waits v.waits u.waits (nobody_named k w.waits v.waits same) others;
  }

-- ---- a frame is found to wait

-- what a session asks for that doesn't sleep is as one likes
put : ℕ → FetchValue → (ℕ → FetchValue) → ℕ → FetchValue
put k q asked j = if nat_eq j k then q else asked j

put_own : (k : ℕ) (q : FetchValue) (asked : ℕ → FetchValue) → put k q asked k ≡ q
unfolding put
put_own k q asked = let same : nat_eq k k ≡ true = grind (arith, nat_tests) in ap (λ (b : Bool). if b then q else asked k) same

put_other : (k : ℕ) (q : FetchValue) (asked : ℕ → FetchValue) (j : ℕ) → j ≢ k → put k q asked j ≡ asked j
unfolding put
put_other k q asked j other = by (nat_eq j k) refl where
  by : (b : Bool) → nat_eq j k ≡ b → (if b then q else asked j) ≡ asked j
  by true e = absurd (other (grind (arith, nat_tests, e)))
  by false e = refl

retarget : (s : State) (now : Contents) (w : WaitingState) (k : ℕ) (q : FetchValue) (asked : ℕ → FetchValue) → asleep_at w.waits k ≡ None → AllWaitOn s now w asked → AllWaitOn s now w (put k q asked)
retarget s now w k q asked none all = record {
  ends = all.ends;
  each = λ j wait is. subst (λ (x : FetchValue). WaitsOn s now w j wait x) (sym (put_other k q asked j (λ same. none-some wait (sym (subst (λ (i : ℕ). asleep_at w.waits i ≡ None) (sym same) none) ∙ is)))) (all.each j wait is);
  own = all.own;
  times = all.times;
  standers = all.standers;
}

module _ (k : ℕ) (s : State) (w v : WaitingState) (session : SessionState) (due most : ℕ) (waits : WaitsFirst s session.held most) (is_due : session.due ≡ Some due) (shown : List ℕ) (is_shown : shown ≡ session.held)
    (joins : (asked : ℕ → FetchValue) → AllWaitOn s (content_at s) w asked → AsksFirst shown (asked k) → fetch_waits s (asked k) ≡ true → AllWaitOn s (content_at s) v asked)
    (times : IfSome (asleep_at v.waits k) (λ wait. (wait.due.0 ≡ due) ⊎ (asleep_at w.waits k ≡ Some wait))) where
  asks : AsksFirst session.held waits.asked
  asks = record { frame = waits.frame; rest = waits.rest; request = waits.request; first = waits.first; reads = waits.reads; is_fetch = waits.is_fetch }

  in_time : (asked : ℕ → FetchValue) → Watches k s w session asked → (wait : WaitState) → asleep_at v.waits k ≡ Some wait → session.due ≡ Some wait.due.0
  in_time asked watches wait is = by (subst (λ o. IfSome o (λ (x : WaitState). (x.due.0 ≡ due) ⊎ (asleep_at w.waits k ≡ Some x))) is times) where
    by : (wait.due.0 ≡ due) ⊎ (asleep_at w.waits k ≡ Some wait) → session.due ≡ Some wait.due.0
    by (inl new) = is_due ∙ ap Some (sym new)
    by (inr was) = (watches.own wait was).1

  joined : (asked asked' : ℕ → FetchValue) → Watches k s w session asked → AllWaitOn s (content_at s) w asked' → waits.asked ≡ asked' k → Watches k s v session asked'
  joined asked asked' watches all same = record {
    wait_on = joins asked' all (subst (λ (x : List ℕ). AsksFirst x (asked' k)) (sym is_shown) (subst (AsksFirst session.held) same asks)) (ap (fetch_waits s) (sym same) ∙ waits.waits);
    own = λ wait is. (subst (AsksFirst session.held) same asks, in_time asked watches wait is);
  }

  pub watch_joined : KeepsWatch k s w session s v session
  watch_joined asked watches = by (asleep_at w.waits k) refl where
    by : (o : Option WaitState) → asleep_at w.waits k ≡ o → (asked' : ℕ → FetchValue) × ((j : ℕ) → j ≢ k → asked' j ≡ asked j) × Watches k s v session asked'
    by (Some wait) is = (asked, (λ j other. refl), joined asked asked watches watches.wait_on (asks_once session.held waits.asked (asked k) asks (watches.own wait is).0))
    by None none =
        let new = put k waits.asked asked in
        (new, put_other k waits.asked asked, joined asked new watches (retarget s (content_at s) w k waits.asked asked none watches.wait_on) (sym (put_own k waits.asked asked)))

-- The first frame is found to wait, and what came of joining is known.
pub watch_waiting : (k clock : ℕ) (ended : Bool) (most : ℕ) (s after : State) (w v u : WaitingState) (a b : SessionState) → WaitsNext clock ended s a after b most → v.waits ≡ w.waits
    → ((s : State) (now : Contents) (asked : ℕ → FetchValue) → AllWaitOn s now w asked → AllWaitOn s now v asked)
    → ((most : ℕ) → WaitsFirst after b.held most → KeepsWatch k after v b after u b) → KeepsWatch k s w a after u b
watch_waiting k clock ended most s after w v u a b next waits notes joins =
    watch_then k s after after w v u a b b (found next.is) (joins most first) where
      held : b.held ≡ a.held
      held = ap (λ (x : SessionState). x.held) next.is

      first : WaitsFirst after b.held most
      first = subst (λ (x : State). WaitsFirst x b.held most) (sym next.same) (subst (λ (x : List ℕ). WaitsFirst s x most) (sym held) next.waits)

      -- the time that it had stays
      stays : (until : ℕ) → a.due ≡ Some until → b.due ≡ Some until
      stays until was = ap (λ (x : SessionState). x.due) next.is ∙ ap (λ (o : Option ℕ). Some (unwrap_or o (clock + most))) was

      found : b ≡ waiting_for clock a most → KeepsWatch k s w a after v b
      found is asked watches =
          subst (λ (x : State). (asked' : ℕ → FetchValue) × ((j : ℕ) → j ≢ k → asked' j ≡ asked j) × Watches k x v b asked') (sym next.same) (
            asked,
            (λ j other. refl),
            record {
              wait_on = notes s (content_at s) asked watches.wait_on;
              own = λ wait here. let own = watches.own wait (sym (ap (λ (x : WaitsState). asleep_at x k) waits) ∙ here) in
                  (subst (λ (x : List ℕ). AsksFirst x (asked k)) (sym held) own.0, stays wait.due.0 own.1);
            },
          )

-- ---- a visit

-- A read, a turn and a release behind it: what was read joins what is held.
pub watch_visit : (k : ℕ) (s after : State) (w v : WaitingState) (seat seat' : Seat) (a b c d : SessionState) (left left' : Option (List ℕ)) → ComesIn seat seat' a b left left' → KeepsWatch k s w b after v c → d ≡ c → KeepsWatch k s w a after v d
watch_visit k s after w v seat seat' a b c d left left' comes turned same =
    watch_then k s s after w w v a b d (watch_held k s w a b comes.receives.piece comes.receives.holds comes.receives.waits) (subst (λ (x : SessionState). KeepsWatch k s w b after v x) (sym same) turned)

-- It stops at a Fetch that waits, where that is the first frame, nothing is owed, and there is nothing else to do.
pub sleeps_left : (clock most : ℕ) (ended : Bool) (after : State) (es : List Exchange) (new : SessionState) (stop : Stop) (waits : WaitsState) (k long : ℕ) → 0 < most → MayIdle new.owed stop → StopsTurn most clock ended after es new stop
    → (stop ≡ Waiting → IsSome (unnamed_at waits k)) → WaitsFirst after new.held long → new.owed ≡ [] → IsSome (unnamed_at waits k)
sleeps_left clock most ended after es new Short waits k long some idles stops sleeps first none = absurd (first_not_incomplete first.frame new.held first.rest first.first stops)
sleeps_left clock most ended after es new Full waits k long some idles stops sleeps first none = absurd (omega (arith, some, stops, ap length none))
sleeps_left clock most ended after es new Dear waits k long some idles stops sleeps first none = absurd idles
sleeps_left clock most ended after es new Waiting waits k long some idles stops sleeps first none = sleeps refl
sleeps_left clock most ended after es new (Stopped why) waits k long some idles stops sleeps first none = absurd (omega (arith, idles, ap length none))
