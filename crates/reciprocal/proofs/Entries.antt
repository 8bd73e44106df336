-- What finds an entry. Assumes nothing.
use Rattle.std.proofs.lemmas.List.FromFn.{get_or-map-range_with_len, length-map-range_with_len}

pub ruleset entry_lemmas = (get_or-map-range_with_len, length-map-range_with_len)
