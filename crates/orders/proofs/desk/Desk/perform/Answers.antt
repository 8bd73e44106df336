-- Each arm makes its call.
-- Assumes nothing.
use Rattle.orders.proofs.Moves.{of_any, of_call}
use Rattle.orders.proofs.desk.Desk.perform.Goals as goal

pub returns-in-SetMode : goal.returns-in-SetMode
returns-in-SetMode g c = of_any _ c.in-SetMode.is c.set_mode.ensures

pub returns-in-Round : goal.returns-in-Round
returns-in-Round g c = of_any _ c.in-Round.is c.round.ensures

pub returns-in-Post : goal.returns-in-Post
returns-in-Post g c = of_any _ c.in-Post.is c.post.ensures

pub returns-in-StrikeOut : goal.returns-in-StrikeOut
returns-in-StrikeOut g c = of_any _ c.in-StrikeOut.is c.strike_out.ensures

pub returns-in-RunPairs : goal.returns-in-RunPairs
returns-in-RunPairs g c = of_call _ c.in-RunPairs.is c.run_over.ensures

pub returns-in-RunRounds : goal.returns-in-RunRounds
returns-in-RunRounds g c = of_call _ c.in-RunRounds.is c.run_over-in-RunRounds.ensures

pub returns-in-Lower : goal.returns-in-Lower
returns-in-Lower g c = of_any _ c.in-Lower.is c.lower.ensures

pub returns-in-Clear : goal.returns-in-Clear
returns-in-Clear g c = of_any _ c.in-Clear.is c.clear.ensures
