use Rattle.js_methods.proofs.building.+doubled.Given as goal

abbrev pub decreases-doubled : goal.decreases-doubled
decreases-doubled g l = l.count
