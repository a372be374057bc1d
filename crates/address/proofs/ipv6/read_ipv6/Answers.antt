-- `ipv6::read_ipv6` meets its contract. Where "::" starts cuts the text into what comes before it and after it.
-- Assumes nothing.
use borrow.Author.Rules.{rules}
use Rattle.address.proofs.Ipv6Laws.{is_full, gap_fits, is_gapped}
use Rattle.address.proofs.ipv6.read_ipv6.Goals as goal

pub slice_bounds-read_gapped-end : goal.slice_bounds-read_gapped-end
slice_bounds-read_gapped-end c = search (gap_fits, rules)

pub slice_bounds-read_gapped-count-in-Some : goal.slice_bounds-read_gapped-count-in-Some
slice_bounds-read_gapped-count-in-Some c = search (gap_fits, rules)

pub slice_bounds-read_gapped-start-in-Some : goal.slice_bounds-read_gapped-start-in-Some
slice_bounds-read_gapped-start-in-Some c = search (gap_fits, rules)

pub returns-in-Some : goal.returns-in-Some
returns-in-Some c = search (is_gapped, rules)

pub returns-in-None : goal.returns-in-None
returns-in-None c = search (is_full, rules)
