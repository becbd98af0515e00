use Rattle.plan_num.proofs.Common.{sym, ◌∙◌, subst}
use Rattle.walks.proofs.Common.{edge_time, IsLeastSum}
use Rattle.vehicle_model.specs.Schedules.{trip_of}
use Rattle.vehicle_model.specs.Trips.{start_stop, end_stop}
use Rattle.vehicle_model.proofs.Following.{link_some, link_none, all_follow, may_minutes}
use Rattle.vehicle_model.proofs.trips.Trips.link_minutes.Goals as goal

pub returns-in-Some-clause-value : goal.returns-in-Some-clause-value
returns-in-Some-clause-value c =
    c.if_in_time.ensures.value
    ∙ sym (link_some c.args.self.now c.args.i c.args.j c.in-Some.minutes c.requires.from c.requires.to
    (sym c.dead_minutes.ensures.value ∙ c.in-Some.is))

pub returns-in-None-clause-value : goal.returns-in-None-clause-value
returns-in-None-clause-value c = sym (link_none c.args.self.now c.args.i c.args.j c.requires.from c.requires.to
    (sym c.dead_minutes.ensures.value ∙ c.in-None.is))

pub returns-in-Some-clause-follows : goal.returns-in-Some-clause-follows
returns-in-Some-clause-follows c = all_follow c.args.self.now c.args.i c.args.j c.requires.from c.requires.to
    (subst (IsLeastSum c.args.self.now.network.edges edge_time
    (end_stop c.args.self.now.network (trip_of c.args.self.now c.args.i))
    (start_stop c.args.self.now.network (trip_of c.args.self.now c.args.j))) c.dead_minutes.ensures.value
    c.dead_minutes.ensures.least)
    c.if_in_time.result (returns-in-Some-clause-value c)

pub returns-in-Some-clause-all : goal.returns-in-Some-clause-all
returns-in-Some-clause-all c = λ minutes may. returns-in-Some-clause-value c
    ∙ may_minutes c.args.self.now c.args.i c.args.j c.requires.from c.requires.to
    (subst (IsLeastSum c.args.self.now.network.edges edge_time
    (end_stop c.args.self.now.network (trip_of c.args.self.now c.args.i))
    (start_stop c.args.self.now.network (trip_of c.args.self.now c.args.j))) c.dead_minutes.ensures.value
    c.dead_minutes.ensures.least)
    minutes may

pub returns-in-None-clause-all : goal.returns-in-None-clause-all
returns-in-None-clause-all c = λ minutes may. returns-in-None-clause-value c
    ∙ may_minutes c.args.self.now c.args.i c.args.j c.requires.from c.requires.to
    (subst (IsLeastSum c.args.self.now.network.edges edge_time
    (end_stop c.args.self.now.network (trip_of c.args.self.now c.args.i))
    (start_stop c.args.self.now.network (trip_of c.args.self.now c.args.j))) c.dead_minutes.ensures.value
    c.dead_minutes.ensures.least)
    minutes may
