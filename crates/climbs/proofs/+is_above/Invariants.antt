use Rattle.climbs.proofs.+is_above.Given as goal

-- It ends, whatever the entries hold.
abbrev pub decreases-is_above : goal.decreases-is_above
decreases-is_above l = l.level
