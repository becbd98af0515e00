use Rattle.plan_num.proofs.Common.{subst}
use Rattle.pesp.specs.Listings.{listing}
use Rattle.pesp.specs.SearchEnds.{EndsAs}
use Rattle.pesp_search.proofs.SearchedTimes.{none_given, spent_given, times_given}
use Rattle.pesp_search.proofs.searched.search_times.Goals as goal

pub returns-in-Found-clause-found : goal.returns-in-Found-clause-found
returns-in-Found-clause-found g c =
    times_given c.args.budget (listing c.args.pesp.now) c.in-Found.found
    (subst (EndsAs c.args.budget (listing c.args.pesp.now)) c.in-Found.is
    c.in_ok-found.ensures.ends)

pub returns-in-NoSolution-clause-found : goal.returns-in-NoSolution-clause-found
returns-in-NoSolution-clause-found g c =
    none_given c.args.budget (listing c.args.pesp.now)
    (subst (EndsAs c.args.budget (listing c.args.pesp.now)) c.in-NoSolution.is
    c.in_ok-found.ensures.ends)

pub returns-in-Spent-clause-found : goal.returns-in-Spent-clause-found
returns-in-Spent-clause-found g c =
    spent_given c.args.budget (listing c.args.pesp.now)
    (subst (EndsAs c.args.budget (listing c.args.pesp.now)) c.in-Spent.is
    c.in_ok-found.ensures.ends)
