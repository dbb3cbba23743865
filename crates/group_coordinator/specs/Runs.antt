-- What may happen to a coordinator, one thing after the other.
use Rattle.std.specs.Prelude.{ℕ, ℤ, List, [], ◌∷◌, Option, Some, None}
use Rattle.group_coordinator.specs.declared.values.GroupError.{GroupError}
use Rattle.group_coordinator.specs.declared.values.Settings.{Settings}
use Rattle.group_coordinator.specs.Coordinators.{Groups, no_groups, asked, release, commit_fault, committed, gone}
use Rattle.group_coordinator.specs.Requests.{Request, Reply}
use Rattle.group_coordinator.specs.Times.{clock, expire}

-- A request comes in a session, of a client; what is ready for a session is released; a commit comes, and is done where it is
-- admitted; a session ends; the clock is read; who is silent goes.
pub data Act : Type 0 where
  Ask : (session : ℕ) → (client : List ℕ) → Request → Act
  Release : (session : ℕ) → Act
  Commit : (group : List ℕ) → (generation : ℤ) → (member : List ℕ) → Act
  End : (session : ℕ) → Act
  Clock : (time : ℕ) → Act
  Expire : Act

-- the groups behind a commit, which is done where nothing refuses it
abbrev pub commit_done : (group member : List ℕ) → Groups → Option GroupError → Groups
commit_done name id v None = committed name id v
commit_done name id v (Some e) = v

-- the groups behind an act
abbrev pub after : Act → Groups → Groups
after (Ask k client q) v = (asked k client q v).groups
after (Release k) v = (release k v).groups
after (Commit name generation id) v = commit_done name id v (commit_fault name generation id v)
after (End k) v = gone k v
after (Clock t) v = clock t v
after Expire v = expire v

-- what is replied by it
abbrev pub replied : Act → Groups → Option Reply
replied (Ask k client q) v = (asked k client q v).reply
replied (Release k) v = (release k v).reply
replied a v = None

-- the groups behind some acts, of which the latest stands first
abbrev pub behind_all : Settings → List Act → Groups
behind_all o [] = no_groups o
behind_all o (a ∷ before) = after a (behind_all o before)
