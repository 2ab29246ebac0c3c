-- `sign_first` (src/first.rt): each byte is one row of BeginLaws' table of signs.
use Rattle.fof_tokens.specs.declared.Kind.TheVariants as kind
use Rattle.fof_tokens.specs.declared.first.First.TheVariants as first
use Rattle.fof_tokens.proofs.BeginLaws.{sign_at, sign-table, no_sign}
use Rattle.fof_tokens.proofs.first.sign_first.Goals as goal

pub returns-in-40 : goal.returns-in-40
returns-in-40 c = sign_at (first.Single kind.OpenParen) 40 c.args.c c.in-40.is sign-table.0

pub returns-in-41 : goal.returns-in-41
returns-in-41 c = sign_at (first.Single kind.CloseParen) 41 c.args.c c.in-41.is sign-table.1

pub returns-in-91 : goal.returns-in-91
returns-in-91 c = sign_at (first.Single kind.OpenBracket) 91 c.args.c c.in-91.is sign-table.2

pub returns-in-93 : goal.returns-in-93
returns-in-93 c = sign_at (first.Single kind.CloseBracket) 93 c.args.c c.in-93.is sign-table.3

pub returns-in-123 : goal.returns-in-123
returns-in-123 c = sign_at (first.Single kind.OpenBrace) 123 c.args.c c.in-123.is sign-table.4

pub returns-in-125 : goal.returns-in-125
returns-in-125 c = sign_at (first.Single kind.CloseBrace) 125 c.args.c c.in-125.is sign-table.5

pub returns-in-44 : goal.returns-in-44
returns-in-44 c = sign_at (first.Single kind.Comma) 44 c.args.c c.in-44.is sign-table.6

pub returns-in-46 : goal.returns-in-46
returns-in-46 c = sign_at (first.Single kind.Dot) 46 c.args.c c.in-46.is sign-table.7

pub returns-in-58 : goal.returns-in-58
returns-in-58 c = sign_at (first.Single kind.Colon) 58 c.args.c c.in-58.is sign-table.8

pub returns-in-63 : goal.returns-in-63
returns-in-63 c = sign_at (first.Single kind.Exists) 63 c.args.c c.in-63.is sign-table.9

pub returns-in-38 : goal.returns-in-38
returns-in-38 c = sign_at (first.Single kind.And) 38 c.args.c c.in-38.is sign-table.10

pub returns-in-124 : goal.returns-in-124
returns-in-124 c = sign_at (first.Single kind.Or) 124 c.args.c c.in-124.is sign-table.11

pub returns-in-33 : goal.returns-in-33
returns-in-33 c = sign_at (first.Double kind.ForAll 61 kind.Unequal) 33 c.args.c c.in-33.is sign-table.12

pub returns-in-61 : goal.returns-in-61
returns-in-61 c = sign_at (first.Double kind.Equal 62 kind.Implies) 61 c.args.c c.in-61.is sign-table.13

pub returns-in-126 : goal.returns-in-126
returns-in-126 c = sign_at first.Tilde 126 c.args.c c.in-126.is sign-table.14

pub returns-in-60 : goal.returns-in-60
returns-in-60 c = sign_at first.Less 60 c.args.c c.in-60.is sign-table.15

pub returns-in-43 : goal.returns-in-43
returns-in-43 c = sign_at first.Plus 43 c.args.c c.in-43.is sign-table.16

pub returns-in-45 : goal.returns-in-45
returns-in-45 c = sign_at first.Minus 45 c.args.c c.in-45.is sign-table.17

pub returns-in_default : goal.returns-in_default
returns-in_default c = no_sign c.args.c c.in_default.in_default-own.rest.0.0.0.0.0.0.0.0.0.0.0.0.0.0.0.0.0.1 c.in_default.in_default-own.rest.0.0.0.0.0.0.0.0.0.0.0.0.0.0.0.0.1 c.in_default.in_default-own.rest.0.0.0.0.0.0.0.0.0.0.0.0.0.0.0.1 c.in_default.in_default-own.rest.0.0.0.0.0.0.0.0.0.0.0.0.0.0.1 c.in_default.in_default-own.rest.0.0.0.0.0.0.0.0.0.0.0.0.0.1 c.in_default.in_default-own.rest.0.0.0.0.0.0.0.0.0.0.0.0.1 c.in_default.in_default-own.rest.0.0.0.0.0.0.0.0.0.0.0.1 c.in_default.in_default-own.rest.0.0.0.0.0.0.0.0.0.0.1 c.in_default.in_default-own.rest.0.0.0.0.0.0.0.0.0.1 c.in_default.in_default-own.rest.0.0.0.0.0.0.0.0.1 c.in_default.in_default-own.rest.0.0.0.0.0.0.0.1 c.in_default.in_default-own.rest.0.0.0.0.0.0.1 c.in_default.in_default-own.rest.0.0.0.0.0.1 c.in_default.in_default-own.rest.0.0.0.0.1 c.in_default.in_default-own.rest.0.0.0.1 c.in_default.in_default-own.rest.0.0.1 c.in_default.in_default-own.rest.0.1 c.in_default.in_default-own.rest.1
