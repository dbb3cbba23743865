-- Moves that are done where a group stands, one after the other.
use Rattle.std.proofs.Common.{◌≡◌, ℕ, ◌+◌, ◌≤◌, Bool, true, false, cond, not, nat_lt, [], ◌++◌, map, length, refl, sym, ap, subst, ◌∙◌, arith, append_assoc, append-nil, length-append}
use Rattle.std.specs.Prelude.{◌==◌}
use Rattle.std.specs.List.{filter, list_any}
use Rattle.group_coordinator.specs.declared.values.GroupError.TheVariants.{UnknownMember, Rebalancing}
use Rattle.group_coordinator.specs.declared.values.Phase.TheVariants.{Preparing, Completing}
use Rattle.group_coordinator.specs.declared.values.Settings.{Settings}
use Rattle.group_coordinator.specs.declared.values.TheConstants.{MOST_GENERATION}
use Rattle.group_coordinator.specs.Members.{Member, is_in, is_syncing, refusals_of}
use Rattle.group_coordinator.specs.Groups.{Group, Move, Moved, stays, and_then, is_preparing, joining_time, unsynced, prepare, drop_those, begun_member, next_leader, common_protocol, longest, begin_generation, if_any_left, complete, is_complete, settle}
use Rattle.group_coordinator.specs.declared.who.Who.TheVariants.{Silent}
use Rattle.group_coordinator.specs.Joining.{plainly, goes_with, unwaited, without_session, end_session}
use Rattle.group_coordinator.specs.Times.{is_overdue, expire_group}
use Rattle.group_coordinator.specs.Doing.{Noted, chooses, refusing, numbering, HasRoom, pending_of, Does}
use Rattle.group_coordinator.proofs.Refusing.{room_of_drop, room_of_change, pending_of_change, pending_of_filter, unsynced_least, begun_least, unwaited_least}

-- nothing happens
pub does_nothing : (l : Noted) (g : Group) → Does stays l l g g
does_nothing l g = record {
  group = refl;
  name = refl;
  noted = λ i. record l { refusals = sym (append-nil l.refusals) i };
  room = omega arith;
}

-- a move that is another one there
pub does_same : (a b : Move) (l k : Noted) (g h : Group) → b l.generations g ≡ a l.generations g → Does a l k g h → Does b l k g h
does_same a b l k g h same d = record {
  name = d.name;
  group = d.group ∙ (λ i. (sym same i).group);
  noted = d.noted ∙ (λ i. refusing (numbering l (sym same i).generations) (sym same i).refusals);
  room = subst (λ (m : Moved). length m.refusals + pending_of h.members ≤ pending_of g.members) (sym same) d.room;
}

-- one move, and another one
pub does_then : (a b : Move) (l k j : Noted) (g h i : Group) → Does a l k g h → Does b k j h i → Does (and_then a b) l j g i
does_then a b l k j g h i x y = record { group = group; noted = noted; room = room; name = y.name ∙ x.name } where
  m : Moved
  m = a l.generations g

  same : b k.generations h ≡ b m.generations m.group
  same = λ p. b (x.noted p).generations (x.group p)

  group : i ≡ (and_then a b l.generations g).group
  group = y.group ∙ (λ p. (same p).group)

  noted : j ≡ refusing (numbering l (and_then a b l.generations g).generations) (and_then a b l.generations g).refusals
  noted = y.noted ∙ (λ p. refusing (numbering (x.noted p) (same p).generations) (same p).refusals)
      ∙ (λ p. record l { generations = (b m.generations m.group).generations; refusals = append_assoc l.refusals m.refusals (b m.generations m.group).refusals p })

  room : length (m.refusals ++ (b m.generations m.group).refusals) + pending_of i.members ≤ pending_of g.members
  room = omega (
    arith,
    length-append m.refusals (b m.generations m.group).refusals,
    x.room,
    subst (λ (n : Moved). length n.refusals + pending_of i.members ≤ pending_of h.members) same y.room,
  )

-- there is room for what comes behind a move
pub room_behind : (a : Move) (l k : Noted) (g h : Group) → Does a l k g h → HasRoom l (pending_of g.members) → HasRoom k (pending_of h.members)
room_behind a l k g h d room =
    subst (λ (n : Noted). HasRoom n (pending_of h.members)) (sym d.noted) (omega (arith, length-append l.refusals (a l.generations g).refusals, d.room, room))

-- members go
pub does_drop : (t : Member → Bool) (l k : Noted) (g h : Group) → k ≡ refusing l (refusals_of UnknownMember (filter t g.members)) → h ≡ record g { members = filter (λ m. not (t m)) g.members }
    → Does (drop_those t) l k g h
does_drop t l k g h noted made = record {
  name = ap (λ (x : Group). x.name) made;
  group = made;
  noted = noted;
  room = subst (λ (x : Group). length (refusals_of UnknownMember (filter t g.members)) + pending_of x.members ≤ pending_of g.members) (sym made) (room_of_drop UnknownMember t g.members);
}

-- members join anew
pub does_prepare_not : (o : Settings) (now : ℕ) (l : Noted) (g : Group) → true ≡ is_preparing g.phase → Does (prepare o now) l l g g
does_prepare_not o now l g e = does_same stays (prepare o now) l l g g (λ i. cond (sym e i) (stays l.generations g) (anew o now l.generations g)) (does_nothing l g) where
  anew : Settings → ℕ → ℕ → Group → Moved
  anew o now n g = record {
    group = record g { phase = Preparing (now + joining_time o g); members = map (unsynced now) g.members };
    generations = n;
    refusals = refusals_of Rebalancing (filter (λ m. is_syncing m.wait) g.members);
  }

pub does_prepare : (o : Settings) (now t : ℕ) (l k : Noted) (g h : Group) → false ≡ is_preparing g.phase → t ≡ now + joining_time o g
    → k ≡ refusing l (refusals_of Rebalancing (filter (λ m. is_syncing m.wait) g.members))
    → h ≡ record g { phase = Preparing t; members = map (unsynced now) g.members } → Does (prepare o now) l k g h
does_prepare o now t l k g h e time noted made = does_same anew (prepare o now) l k g h (λ i. cond (sym e i) (stays l.generations g) (anew l.generations g)) done where
  anew : Move
  anew n x = record {
    group = record x { phase = Preparing (now + joining_time o x); members = map (unsynced now) x.members };
    generations = n;
    refusals = refusals_of Rebalancing (filter (λ m. is_syncing m.wait) x.members);
  }

  done : Does anew l k g h
  done = record {
    name = ap (λ (x : Group). x.name) made;
    group = made ∙ (λ i. record g { phase = Preparing (time i); members = map (unsynced now) g.members });
    noted = noted;
    room = subst (λ (x : Group). length (refusals_of Rebalancing (filter (λ m. is_syncing m.wait) g.members)) + pending_of x.members ≤ pending_of g.members) (sym made)
        (room_of_change Rebalancing (λ m. is_syncing m.wait) (unsynced now) (unsynced_least Rebalancing now) g.members);
  }

-- a generation begins
abbrev begins : ℕ → Move
begins now n g = record {
  group = record g {
    generation = n + 1;
    phase = Completing (now + longest g.members);
    leader = next_leader g.leader g.members;
    protocol = common_protocol (next_leader g.leader g.members) g.members;
    members = map (begun_member now) g.members;
  };
  generations = n + 1;
  refusals = [];
}

pub does_begin : (now n : ℕ) (l k : Noted) (g h : Group) → nat_lt l.generations MOST_GENERATION ≡ true → n ≡ l.generations + 1 → k ≡ numbering l (l.generations + 1)
    → h ≡ record g {
      generation = n;
      phase = Completing (now + longest g.members);
      leader = next_leader g.leader g.members;
      protocol = common_protocol (next_leader g.leader g.members) g.members;
      members = map (begun_member now) g.members;
    } → Does (begin_generation now) l k g h
does_begin now n l k g h low number noted made =
    does_same (begins now) (begin_generation now) l k g h (λ i. cond (low i) (begins now l.generations g) (drop_those (λ m. true) l.generations g)) done where
      done : Does (begins now) l k g h
      done = record {
        name = ap (λ (x : Group). x.name) made;
        group = made ∙ (λ i. record g {
          generation = number i;
          phase = Completing (now + longest g.members);
          leader = next_leader g.leader g.members;
          protocol = common_protocol (next_leader g.leader g.members) g.members;
          members = map (begun_member now) g.members;
        });
        noted = noted ∙ (λ i. record l { generations = l.generations + 1; refusals = sym (append-nil l.refusals) i });
        room = subst (λ (x : Group). 0 + pending_of x.members ≤ pending_of g.members) (sym made) (omega (arith, pending_of_change (begun_member now) (begun_least now) g.members));
      }

pub does_end : (now : ℕ) (l k : Noted) (g h : Group) → nat_lt l.generations MOST_GENERATION ≡ false → Does (drop_those (λ m. true)) l k g h → Does (begin_generation now) l k g h
does_end now l k g h low d =
    does_same (drop_those (λ m. true)) (begin_generation now) l k g h (λ i. cond (low i) (begins now l.generations g) (drop_those (λ m. true) l.generations g)) d

-- a move of whoever is left
pub does_left : (a : Move) (l k : Noted) (g h : Group) → (0 == length g.members) ≡ false → Does a l k g h → Does (if_any_left a) l k g h
does_left a l k g h e d = does_same a (if_any_left a) l k g h (λ i. cond (e i) (stays l.generations g) (a l.generations g)) d

pub does_none_left : (a : Move) (l : Noted) (g : Group) → (0 == length g.members) ≡ true → Does (if_any_left a) l l g g
does_none_left a l g e = does_same stays (if_any_left a) l l g g (λ i. cond (e i) (stays l.generations g) (a l.generations g)) (does_nothing l g)

-- the next generation, where it begins
pub does_settle : (now : ℕ) (l k : Noted) (g h : Group) → true ≡ is_complete now g g.phase → Does (complete now) l k g h → Does (settle now) l k g h
does_settle now l k g h e d = does_same (complete now) (settle now) l k g h (λ i. cond (sym e i) (complete now l.generations g) (stays l.generations g)) d

pub does_settle_not : (now : ℕ) (l : Noted) (g : Group) → false ≡ is_complete now g g.phase → Does (settle now) l l g g
does_settle_not now l g e = does_same stays (settle now) l l g g (λ i. cond (sym e i) (complete now l.generations g) (stays l.generations g)) (does_nothing l g)

-- ---- time, and the end of a session

abbrev renewal : Settings → ℕ → Move
renewal o now = and_then (prepare o now) (settle now)

-- who is silent goes
pub does_expire : (o : Settings) (now : ℕ) (over : Bool) (l k j : Noted) (g h i : Group) → over ≡ is_overdue now g.phase → true ≡ list_any (chooses (Silent now over)) g.members
    → Does (drop_those (chooses (Silent now over))) l k g h → Does (renewal o now) k j h i → Does (expire_group o now) l j g i
does_expire o now over l k j g h i e any x y =
    does_same (and_then (drop_those (chooses (Silent now over))) (renewal o now)) (expire_group o now) l j g i same (does_then (drop_those (chooses (Silent now over))) (renewal o now) l k j g h i x y) where
      same : expire_group o now l.generations g ≡ and_then (drop_those (chooses (Silent now over))) (renewal o now) l.generations g
      same = (λ p. cond (list_any (chooses (Silent now (sym e p))) g.members)
          (and_then (drop_those (chooses (Silent now (sym e p)))) (renewal o now) l.generations g) (settle now l.generations g))
          ∙ (λ p. cond (sym any p) (and_then (drop_those (chooses (Silent now over))) (renewal o now) l.generations g) (settle now l.generations g))

pub does_expire_none : (o : Settings) (now : ℕ) (over : Bool) (l k : Noted) (g h : Group) → over ≡ is_overdue now g.phase → false ≡ list_any (chooses (Silent now over)) g.members
    → Does (settle now) l k g h → Does (expire_group o now) l k g h
does_expire_none o now over l k g h e any x = does_same (settle now) (expire_group o now) l k g h same x where
  same : expire_group o now l.generations g ≡ settle now l.generations g
  same = (λ p. cond (list_any (chooses (Silent now (sym e p))) g.members)
      (and_then (drop_those (chooses (Silent now (sym e p)))) (renewal o now) l.generations g) (settle now l.generations g))
      ∙ (λ p. cond (sym any p) (and_then (drop_those (chooses (Silent now over))) (renewal o now) l.generations g) (settle now l.generations g))

-- a group changes, and nobody is refused
pub does_plainly : (f : Group → Group) (l : Noted) (g h : Group) → h ≡ f g → h.name ≡ g.name → pending_of h.members ≤ pending_of g.members → Does (plainly f) l l g h
does_plainly f l g h made named room = record {
  group = made;
  name = named;
  noted = λ i. record l { refusals = sym (append-nil l.refusals) i };
  room = omega (arith, room);
}

-- nobody waits in this session
pub does_end_not : (now k : ℕ) (l : Noted) (g : Group) → false ≡ list_any (λ m. is_in k m.wait) g.members → Does (end_session now k) l l g g
does_end_not now k l g e =
    does_same stays (end_session now k) l l g g (λ i. cond (sym e i) (and_then (plainly (without_session now k)) (settle now) l.generations g) (stays l.generations g)) (does_nothing l g)

pub does_end_session : (now k : ℕ) (l j : Noted) (g h i : Group) → true ≡ list_any (λ m. is_in k m.wait) g.members → h ≡ without_session now k g → Does (settle now) l j h i → Does (end_session now k) l j g i
does_end_session now k l j g h i e made x =
    does_same (and_then (plainly (without_session now k)) (settle now)) (end_session now k) l j g i
    (λ p. cond (sym e p) (and_then (plainly (without_session now k)) (settle now) l.generations g) (stays l.generations g))
    (does_then (plainly (without_session now k)) (settle now) l l j g h i (does_plainly (without_session now k) l g h made (ap (λ (y : Group). y.name) made) room) x) where
      room : pending_of h.members ≤ pending_of g.members
      room = subst (λ (y : Group). pending_of y.members ≤ pending_of g.members) (sym made)
          (omega (arith, pending_of_change (unwaited now k) (unwaited_least now k) (filter (λ m. not (goes_with k m)) g.members), pending_of_filter (λ m. not (goes_with k m)) g.members))

pub room_unwaited : (now k : ℕ) (l : Noted) (g h : Group) → h ≡ without_session now k g → HasRoom l (pending_of g.members) → HasRoom l (pending_of h.members)
room_unwaited now k l g h made room = subst (λ (y : Group). HasRoom l (pending_of y.members)) (sym made)
    (omega (arith, room, pending_of_change (unwaited now k) (unwaited_least now k) (filter (λ m. not (goes_with k m)) g.members), pending_of_filter (λ m. not (goes_with k m)) g.members))
