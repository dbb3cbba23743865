use Rattle.std.proofs.Common.{ℕ, ◌≡◌, List, ap, is_some, refl, subst, sym, true}
use Rattle.request_frames.specs.Fetch.{fetch_view}
use Rattle.sessions.specs.Waiting.{WaitsState, asleep_at, wait_at}
use Rattle.sessions.specs.Joining.{entries_in}
use Rattle.sessions.proofs.Joining.{added_joins, is_time_in, joins_then, same_joins}
use Rattle.sessions.proofs.Joined.{counts_all, still_listed, still_waits, time_comes, time_stays}
use Rattle.sessions.proofs.Standers.{standers_come, standers_kept}
use Rattle.sessions.proofs.waiting.Waiting.add.Goals as goal

pub returns-in_err-add-clause-joins : goal.returns-in_err-add-clause-joins
returns-in_err-add-clause-joins g c =
    let same = c.in_err-add.ensures.unchanged_on_error in
    same_joins c.args.state.now c.args.number (c.args.due, c.args.number) _ c.args.self.now _ c.self.view_is refl refl (ap (λ (w : WaitsState). wait_at w c.args.number) same) (λ j other. ap (λ (w : WaitsState). wait_at w j) same)
    (λ j other. ap (λ (w : WaitsState). asleep_at w j) same)

pub returns-in_err-insert-clause-joins : goal.returns-in_err-insert-clause-joins
returns-in_err-insert-clause-joins g c =
    added_joins c.args.state.now c.args.number (c.args.due, c.args.number) _ c.args.self.now _ c.self.view_is _ refl
    (λ time known. subst (λ (ts : List (ℕ × ℕ)). is_time_in time ts ≡ true) (sym c.in_err-insert.ensures.err) known) c.requires c.in_ok-add.ensures.adds refl c.add.ensures.waits c.add.ensures.asleep

pub returns-clause-joins : goal.returns-clause-joins
returns-clause-joins g c =
    joins_then c.args.state.now c.args.number (c.args.due, c.args.number) c.args.self.now _ c.add_topics.new.self
    (added_joins c.args.state.now c.args.number (c.args.due, c.args.number) _ c.args.self.now _ c.self.view_is _ refl
    (λ time known. subst (λ (ts : List (ℕ × ℕ)). is_time_in time ts ≡ true) (sym c.in_ok-insert.ensures.keys) (time_stays time (c.args.due, c.args.number) c.self.inside.by_time.keys known)) c.requires c.in_ok-add.ensures.adds refl
    c.add.ensures.waits c.add.ensures.asleep)
    (c.add_topics.ensures.joins (c.args.due, c.args.number))

pub returns-clause-waits : goal.returns-clause-waits
returns-clause-waits g c = still_waits c.add_topics.result c.args.state.now c.args.number _ c.add_topics.new.self c.add_topics.ensures.joins _ c.in_ok-add.ensures.adds refl

pub returns-clause-listed : goal.returns-clause-listed
returns-clause-listed g c =
    still_listed c.add_topics.result c.args.state.now c.args.number _ c.add_topics.new.self c.add_topics.ensures.joins (c.args.due, c.args.number)
    (subst (λ (ts : List (ℕ × ℕ)). is_time_in (c.args.due, c.args.number) ts ≡ true) (sym c.in_ok-insert.ensures.keys) (time_comes (c.args.due, c.args.number) c.self.inside.by_time.keys))

pub returns-clause-counts : goal.returns-clause-counts
returns-clause-counts g c =
    counts_all c.add_topics.result c.args.state.now c.args.number _ c.add_topics.new.self c.add_topics.ensures.joins _ (entries_in (fetch_view c.args.asked.now).topics) _ c.in_ok-add.ensures.sleeps (sym c.awaited_bytes.ensures) refl c.add_topics.ensures.counts

pub returns-in_err-add-clause-standers : goal.returns-in_err-add-clause-standers
returns-in_err-add-clause-standers g c = standers_kept _ c.args.self.now _ c.self.view_is (λ k. ap (λ (w : WaitsState). wait_at w k) c.in_err-add.ensures.unchanged_on_error) refl

pub returns-in_err-insert-clause-standers : goal.returns-in_err-insert-clause-standers
returns-in_err-insert-clause-standers g c = standers_come c.args.number _ c.args.self.now _ c.self.view_is refl c.add.ensures.waits c.requires

pub returns-clause-standers : goal.returns-clause-standers
returns-clause-standers g c stand =
    c.add_topics.ensures.standers.standers (ap is_some c.in_ok-add.ensures.adds) (standers_come c.args.number _ c.args.self.now _ c.self.view_is refl c.add.ensures.waits c.requires stand)
