use Rattle.uc_fof.proofs.NameParts.{is_lower, is_quoted, is_integer, isnt_name}
use Rattle.uc_fof.proofs.heading.name_at.Goals as goal

pub returns-in-Lower : goal.returns-in-Lower
returns-in-Lower c = is_lower c.args.bytes.now c.args.tokens.now c.args.at c.in-Lower.ensures

pub returns-in-Quoted : goal.returns-in-Quoted
returns-in-Quoted c = is_quoted c.args.bytes.now c.args.tokens.now c.args.at c.in-Quoted.ensures

pub returns-in-Integer : goal.returns-in-Integer
returns-in-Integer c = is_integer c.args.bytes.now c.args.tokens.now c.args.at c.in-Integer.ensures

pub returns-in_default : goal.returns-in_default
returns-in_default c = isnt_name c.args.bytes.now c.args.tokens.now c.args.at c.terminal_at.result c.terminal_at.ensures c.in_default.not-Lower c.in_default.not-Quoted c.in_default.not-Integer
